use Rattle.key_codes.proofs.Imports.{◌≡◌, ◌<◌, [], length, map, ◌∙◌, ap, sym, subst, arith, inl, inr, HasKey, byte_code, byte_codes, cases_lt, get_or-map, get_or_default, length-map, row_at, row_code}
use Rattle.key_codes.proofs.KeyLaws.{finds-next, several-code}
use Rattle.key_codes.proofs.places.code_places.Goals as goal

pub loop-i-preserved : goal.loop-i-preserved
loop-i-preserved c =
    let rows = c.args.chunk.now.rows in
    let i = c.loop-i.i in
    let f = row_code c.args.places.now in
    let lt : i < length rows = omega (arith, c.rows-i-end.ensures.count) in
    let long = length-map rows f in
    let is = ap byte_code c.as_slice.ensures.value
    ∙ several-code c.args.places.now (row_at rows i) _ c.requires.several
    c.in_ok-write_code.ensures.code ∙ sym (get_or-map f rows i [] [] lt) in (
      finds-next c.args.adds (map f rows) (byte_codes c.args.seen.now) i (byte_codes c.loop-i.seen)
          _ c.loop-i.found.items _ _ _ (omega (arith, lt, long)) is c.loop-i.invariant.0
          c.in_ok-place_of.ensures c.in_ok-push.ensures.items,
      λ k less. elim (cases_lt k i) [
        | inl before ↦ c.loop-i.invariant.1 k before
        | inr le ↦
            let same : i ≡ k = omega (arith, le, less) in
            subst (λ n. HasKey c.args.chunk.now.types c.args.places.now (row_at rows n)) same
            c.in_ok-write_code.ensures.cells
      ],
    )

pub returns-clause-cells : goal.returns-clause-cells
returns-clause-cells c = λ k d lt.
    subst (HasKey c.args.chunk.now.types c.args.places.now)
    (get_or_default c.args.chunk.now.rows k [] d lt)
    (c.loop-i.invariant.1 k (omega (arith, lt, c.loop-i-test.false, c.rows-i-end.ensures.count)))
