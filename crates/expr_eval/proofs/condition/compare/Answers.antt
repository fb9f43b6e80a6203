use Rattle.expr_eval.proofs.Imports.{IfOk-weaker, Null, compares, false, operand_value, refl, sym, ◌∙◌}
use Rattle.expr_eval.proofs.Onto.{same_maps}
use Rattle.expr_eval.proofs.NullLaws.{compares_right}
use Rattle.expr_eval.proofs.condition.compare.Goals as goal

pub beside_expression-requires-clause-alike : goal.beside_expression-requires-clause-alike
beside_expression-requires-clause-alike c = λ m. (rw c.in-Plain.is at c.requires.alike) m refl

pub beside_text-requires-clause-is_text : goal.beside_text-requires-clause-is_text
beside_text-requires-clause-is_text c = λ m. (rw c.in-Text.is at c.requires.alike) m refl

pub returns-in-Plain : goal.returns-in-Plain
unfolding operand_value
returns-in-Plain c = rw c.in-Plain.is c.beside_expression.ensures

pub returns-in-Text : goal.returns-in-Text
unfolding operand_value
returns-in-Text c = rw c.in-Text.is c.beside_text.ensures

pub returns-in-Null : goal.returns-in-Null
unfolding operand_value
returns-in-Null c =
    let left = c.args.left.now in
    rw c.in-Null.is (IfOk-weaker c.null_compared.result _ _ (λ m h. h
    ∙ same_maps (λ row. false) (λ row. compares c.args.op (operand_value left row) Null)
    c.args.chunk.now.rows (λ row. sym (compares_right c.args.op (operand_value left row))))
    c.null_compared.ensures)
