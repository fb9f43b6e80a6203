use Rattle.key_codes.proofs.Imports.{[], ap, arith, cond, get_or, map, number_codes, option_map, sym, valid_codes, with_null, ◌∙◌, ◌∷◌}
use Rattle.key_codes.proofs.CodeLaws.{length-valid, valid-code}
use Rattle.key_codes.proofs.KeyLaws.{finds-all, finds-next}
use Rattle.key_codes.proofs.places.number_places.Goals as goal

pub loop-i-preserved : goal.loop-i-preserved
loop-i-preserved c =
    let xs = c.args.numbers.now in
    let codes = valid_codes (option_map (λ v. v.now) c.args.validity) (map (λ n. n ∷ []) xs) in
    let lt = c.loop-i-test.true in
    let long = length-valid c.args.validity (λ v. v.now) (λ n. n ∷ []) xs c.requires.long in (
      finds-next c.args.adds codes (with_null c.args.null.now (number_codes c.args.seen.now))
          c.loop-i.i (with_null c.loop-i.null (number_codes c.loop-i.seen)) _ c.loop-i.found.items
          _ _ _ (omega (arith, lt, long))
          (ap (λ b. cond b (get_or xs c.loop-i.i 0 ∷ []) []) c.is_valid-valid.ensures
          ∙ sym (valid-code c.args.validity (λ v. v.now) (λ n. n ∷ []) xs c.loop-i.i 0
          c.requires.long (omega (arith, lt)))) c.loop-i.invariant.0
          c.in_ok-place_of_valid_number.ensures.finds c.in_ok-push.ensures.items,
      c.in_ok-place_of_valid_number.ensures.within,
    )

pub returns-clause-finds : goal.returns-clause-finds
returns-clause-finds c =
    let xs = c.args.numbers.now in
    let codes = valid_codes (option_map (λ v. v.now) c.args.validity) (map (λ n. n ∷ []) xs) in
    let long = length-valid c.args.validity (λ v. v.now) (λ n. n ∷ []) xs c.requires.long in
    finds-all c.args.adds codes (with_null c.args.null.now (number_codes c.args.seen.now))
    c.loop-i.i
    (with_null c.loop-i.null (number_codes c.loop-i.seen)) c.loop-i.found.items
    (omega (arith, long, c.loop-i-test.false)) c.loop-i.invariant.0
