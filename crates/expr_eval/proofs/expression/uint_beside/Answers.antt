use Rattle.expr_eval.proofs.Imports.{arith}
use Rattle.expr_eval.proofs.Applied.{under_one, uint_beside_at, uint_difference_beside_at, uint_type}
use Rattle.expr_eval.proofs.expression.uint_beside.Goals as goal

pub returns-in-Ok-clause-values : goal.returns-in-Ok-clause-values
returns-in-Ok-clause-values c = search (arith, under_one, uint_difference_beside_at)

pub returns-in-Ok-uint_results_beside : goal.returns-in-Ok-uint_results_beside
returns-in-Ok-uint_results_beside c = search (arith, uint_type, under_one, uint_beside_at)
