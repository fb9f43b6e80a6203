use Rattle.expr_eval.proofs.Imports.{arith, compares, operand_value}
use Rattle.expr_eval.proofs.Onto.{same_maps}
use Rattle.expr_eval.proofs.Comparisons.{flipped_compares}
use Rattle.expr_eval.proofs.condition.beside_expression.Goals as goal

pub returns-in-Plain : goal.returns-in-Plain
unfolding operand_value
returns-in-Plain c = rw c.in-Plain.is c.plain_operands.ensures

pub returns-in-Text : goal.returns-in-Text
unfolding operand_value
returns-in-Text c = search (arith, same_maps, compares, flipped_compares)

pub returns-in-Null : goal.returns-in-Null
unfolding operand_value
returns-in-Null c = rw c.in-Null.is c.null_compared.ensures
