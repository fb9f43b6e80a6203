use Rattle.expr_eval.proofs.Imports.{IfOk-weaker, arith_value, number_of, plain_value, refl, swap_if, value_of}
use Rattle.expr_eval.proofs.Onto.{each_is}
use Rattle.expr_eval.proofs.expression.number_beside.Goals as goal

pub returns-clause-values : goal.returns-clause-values
returns-clause-values c = IfOk-weaker c.beside.result _ _ (λ made e.
    each_is
    (λ v. swap_if c.args.swapped (arith_value c.args.op) v (plain_value (number_of c.args.n)))
    (value_of c.args.expr.now) (λ row. swap_if c.args.swapped (arith_value c.args.op)
    (value_of c.args.expr.now row) (plain_value (number_of c.args.n))) c.args.chunk.now.rows
    e c.column_at.ensures.values (λ row. refl)) c.beside.ensures.values
