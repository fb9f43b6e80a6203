use Rattle.expr_eval.proofs.Imports.{IfOk-weaker, ap₂, arith_type, arith_value, refl, value_of, ◌∙◌}
use Rattle.expr_eval.proofs.Onto.{pairs_are}
use Rattle.expr_eval.proofs.Operands.{made_type, made_values}
use Rattle.expr_eval.proofs.expression.expressions.Goals as goal

pub returns-in-Some-clause-kind : goal.returns-in-Some-clause-kind
returns-in-Some-clause-kind c = IfOk-weaker c.pairs_onto.result _ _ (λ made k. k
    ∙ ap₂ (arith_type c.args.op) (made_type c.args.left.now c.args.chunk.now c.in-Some.column
    (rw c.in-Some.is at c.requires.left.column)) c.column_at-there.ensures.kind)
    c.pairs_onto.ensures.kind

pub returns-in-Some-clause-values : goal.returns-in-Some-clause-values
returns-in-Some-clause-values c = IfOk-weaker c.pairs_onto.result _ _ (λ made e.
    pairs_are (arith_value c.args.op) (value_of c.args.left.now) (value_of c.args.right.now) (λ row.
    arith_value c.args.op (value_of c.args.left.now row) (value_of c.args.right.now row))
    c.args.chunk.now.rows
    e (made_values c.args.left.now c.args.chunk.now
    c.in-Some.column (rw c.in-Some.is at c.requires.left.column)) c.column_at-there.ensures.values
    (λ row. refl)) c.pairs_onto.ensures.values

pub returns-clause-values : goal.returns-clause-values
returns-clause-values c = IfOk-weaker c.pairs.result _ _ (λ made e.
    pairs_are (arith_value c.args.op) (value_of c.args.left.now) (value_of c.args.right.now) (λ row.
    arith_value c.args.op (value_of c.args.left.now row) (value_of c.args.right.now row))
    c.args.chunk.now.rows
    e c.column_at.ensures.values
    c.column_at-there.ensures.values (λ row. refl)) c.pairs.ensures.values
