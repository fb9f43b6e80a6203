use Rattle.expr_eval.proofs.Imports.{IfOk-weaker, compares, refl, value_of}
use Rattle.expr_eval.proofs.Onto.{pairs_are}
use Rattle.expr_eval.proofs.condition.expressions_compared.Goals as goal

pub returns : goal.returns
returns c = IfOk-weaker c.columns.result _ _ (λ m e.
    pairs_are (compares c.args.op) (value_of c.args.left.now)
    (value_of c.args.right.now) (λ row. compares c.args.op
    (value_of c.args.left.now row) (value_of c.args.right.now row)) c.args.chunk.now.rows
    e c.column_at-here.ensures.values c.column_at-there.ensures.values
    (λ row. refl)) c.columns.ensures
