use Rattle.key_codes.proofs.Imports.{arith}
use Rattle.chunk_data.specs.declared.typed_value.PlainType.TheVariants as plain
use Rattle.chunk_data.specs.declared.typed_value.Value.TheVariants as value
use Rattle.key_codes.proofs.KeyLaws.{cells-of}
use Rattle.key_codes.proofs.places.uint_bits.Goals as goal

pub returns-clause-cells : goal.returns-clause-cells
returns-clause-cells c = cells-of plain.UInt64 value.UInt c.args.numbers.now 0 c.loop-i.i
    (omega (arith, c.loop-i-test.false)) c.loop-i.invariant.1
