use Rattle.expr_eval.proofs.Imports.{IfOk-weaker, Some, false, has_truth, not, operand_value, sym, true, ◌∙◌}
use Rattle.expr_eval.proofs.Onto.{same_maps, same_value}
use Rattle.expr_eval.proofs.NullLaws.{truth_of_null, truth_of_valid}
use Rattle.expr_eval.proofs.condition.null_test.Goals as goal

pub returns-in-Plain : goal.returns-in-Plain
unfolding operand_value
returns-in-Plain c = rw c.in-Plain.is c.expression_null_test.ensures

pub returns-in-Text : goal.returns-in-Text
unfolding operand_value
returns-in-Text c = rw c.in-Text.is (IfOk-weaker c.filled.result _ _ (λ m h. h
    ∙ same_value (not c.args.wanted) c.args.chunk.now.rows
    ∙ same_maps (λ row. not c.args.wanted) (λ row. has_truth c.args.wanted (Some false))
    c.args.chunk.now.rows (λ row. sym (truth_of_valid c.args.wanted)))
    (rw c.rows.ensures.count at c.filled.ensures))

pub returns-in-Null : goal.returns-in-Null
unfolding operand_value
returns-in-Null c = rw c.in-Null.is (IfOk-weaker c.filled-in-Null.result _ _ (λ m h. h
    ∙ same_value c.args.wanted c.args.chunk.now.rows
    ∙ same_maps (λ row. c.args.wanted) (λ row. has_truth c.args.wanted (Some true))
    c.args.chunk.now.rows (λ row. sym (truth_of_null c.args.wanted)))
    (rw c.rows-in-Null.ensures.count at c.filled-in-Null.ensures))
