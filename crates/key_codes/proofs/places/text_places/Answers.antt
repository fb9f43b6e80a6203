use Rattle.key_codes.proofs.Imports.{List, [], ap₂, arith, byte_code, byte_codes, cases_lt, cond, get_or, get_or_default, inl, inr, length, map, option_map, rules, subst, sym, valid_codes, with_null, ℕ, ◌<◌, ◌^◌, ◌∙◌, ◌∷◌, ◌≡◌}
use Rattle.key_codes.proofs.CodeLaws.{length-valid, valid-code}
use Rattle.key_codes.proofs.KeyLaws.{finds-all, finds-next}
use Rattle.key_codes.proofs.places.text_places.Goals as goal

pub loop-i-preserved : goal.loop-i-preserved
loop-i-preserved c =
    let xs = c.args.texts.now in
    let codes = valid_codes (option_map (λ v. v.now) c.args.validity) (map byte_code xs) in
    let lt = c.loop-i-test.true in
    let long = length-valid c.args.validity (λ v. v.now) byte_code xs c.requires.long in (
      finds-next c.args.adds codes (with_null c.args.null.now (byte_codes c.args.seen.now))
          c.loop-i.i (with_null c.loop-i.null (byte_codes c.loop-i.seen)) _ c.loop-i.found.items
          _ _ _ (omega (arith, lt, long))
          (ap₂ (λ b t. cond b (byte_code t) []) c.is_valid-valid.ensures c.get.ensures
          ∙ sym (valid-code c.args.validity (λ v. v.now) byte_code xs c.loop-i.i []
          c.requires.long (omega (arith, lt)))) c.loop-i.invariant.0
          c.in_ok-place_of_valid_text.ensures.finds c.in_ok-push.ensures.items,
      c.in_ok-place_of_valid_text.ensures.within,
      λ k less. elim (cases_lt k c.loop-i.i) [
        | inl before ↦ c.loop-i.invariant.2 k before
        | inr le ↦
            let here : length (get_or c.args.texts.now c.loop-i.i []) < 2 ^ 64 = search rules in
            let same : c.loop-i.i ≡ k = omega (arith, le, less) in
            subst (λ n. length (get_or c.args.texts.now n []) < 2 ^ 64) same here
      ],
    )

pub returns-clause-finds : goal.returns-clause-finds
returns-clause-finds c =
    let xs = c.args.texts.now in
    let codes = valid_codes (option_map (λ v. v.now) c.args.validity) (map byte_code xs) in
    let long = length-valid c.args.validity (λ v. v.now) byte_code xs c.requires.long in
    finds-all c.args.adds codes (with_null c.args.null.now (byte_codes c.args.seen.now)) c.loop-i.i
    (with_null c.loop-i.null (byte_codes c.loop-i.seen)) c.loop-i.found.items
    (omega (arith, long, c.loop-i-test.false, c.len-i-end.ensures)) c.loop-i.invariant.0

pub returns-clause-cells : goal.returns-clause-cells
returns-clause-cells c = λ k d lt.
    subst (λ (t : List ℕ). length t < 2 ^ 64) (get_or_default c.args.texts.now k [] d lt)
    (c.loop-i.invariant.2 k (omega (arith, lt, c.loop-i-test.false, c.len-i-end.ensures)))
