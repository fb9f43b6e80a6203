use Rattle.query_model.proofs.Imports.{ap, w64, wrapped, wrapping_add_is}
use Rattle.chunk_data.specs.declared.typed_value.Value.TheVariants as value
use Rattle.query_model.proofs.arithmetic.add_int.Goals as goal

pub returns : goal.returns
unfolding wrapped
returns c = ap value.Int (wrapping_add_is w64 c.args.a c.args.b c.ranges.a c.ranges.b)
