use Rattle.query_model.proofs.Imports.{to_z-of_z, arith}
use Rattle.query_model.proofs.Wrapping.{wrapped-difference}
use Rattle.query_model.proofs.arithmetic.sub_uint.Goals as goal

pub returns : goal.returns
returns c = grind (arith, to_z-of_z, wrapped-difference)
