use Rattle.expr_eval.proofs.Imports.{arith, compares, operand_value}
use Rattle.expr_eval.proofs.Onto.{same_value}
use Rattle.expr_eval.proofs.condition.beside_text.Goals as goal

pub returns-in-Plain : goal.returns-in-Plain
unfolding operand_value
returns-in-Plain c = rw c.in-Plain.is c.text_compared.ensures

pub returns-in-Text : goal.returns-in-Text
unfolding operand_value
returns-in-Text c = search (arith, compares, same_value)

pub returns-in-Null : goal.returns-in-Null
unfolding operand_value
returns-in-Null c = rw c.in-Null.is c.null_compared.ensures
