use Rattle.key_codes.proofs.Imports.{get_or, pos, w64, SFits, arith, rules, subst, to_z-of_z, IsCell}
use Rattle.chunk_data.specs.declared.typed_value.PlainType.TheVariants as plain
use Rattle.chunk_data.specs.declared.typed_value.Value.TheVariants as value
use Rattle.key_codes.proofs.KeyLaws.{cells-more, cells-of, ints-next}
use Rattle.key_codes.proofs.places.int_bits.Goals as goal

pub loop-i-preserved : goal.loop-i-preserved
loop-i-preserved c =
    let number : SFits w64 (get_or c.args.numbers.now c.loop-i.i (pos 0)) = search rules in
    let code = simp to_z-of_z at c.bits_of_int.ensures.code in
    let cell = subst (λ z. IsCell plain.Int64 (value.Int z)) (to_z-of_z number)
    c.bits_of_int.ensures.cell in (
      ints-next c.args.numbers.now c.loop-i.i c.loop-i.bits.items _ _
          (omega (arith, c.loop-i-test.true)) c.in_ok-push.ensures.items c.loop-i.invariant.0 code,
      cells-more plain.Int64 value.Int c.args.numbers.now (pos 0) c.loop-i.i c.loop-i.invariant.1
          cell,
    )

pub returns-clause-cells : goal.returns-clause-cells
returns-clause-cells c = cells-of plain.Int64 value.Int c.args.numbers.now (pos 0) c.loop-i.i
    (omega (arith, c.loop-i-test.false)) c.loop-i.invariant.1
