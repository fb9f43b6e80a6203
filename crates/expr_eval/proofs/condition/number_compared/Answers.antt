use Rattle.expr_eval.proofs.Imports.{arith, compares}
use Rattle.expr_eval.proofs.Onto.{each_is}
use Rattle.expr_eval.proofs.condition.number_compared.Goals as goal

pub returns : goal.returns
returns c = search (arith, each_is, compares)
