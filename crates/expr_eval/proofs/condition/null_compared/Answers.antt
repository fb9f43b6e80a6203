use Rattle.expr_eval.proofs.Imports.{IfOk-weaker, false, ◌∙◌}
use Rattle.expr_eval.proofs.Onto.{same_value}
use Rattle.expr_eval.proofs.condition.null_compared.Goals as goal

pub returns : goal.returns
returns c = IfOk-weaker c.filled.result _ _ (λ m h. h ∙ same_value false c.args.chunk.now.rows)
    (rw c.rows.ensures.count at c.filled.ensures)
