use Rattle.expr_eval.proofs.Imports.{arith, to_z-of_z}
use Rattle.expr_eval.proofs.Applied.{under_one, int_beside_at}
use Rattle.expr_eval.proofs.expression.int_beside.Goals as goal

pub returns-in-Ok-clause-values : goal.returns-in-Ok-clause-values
returns-in-Ok-clause-values c = search (arith, under_one, to_z-of_z, int_beside_at)
