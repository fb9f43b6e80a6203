use Rattle.expr_eval.proofs.Imports.{IfOk-weaker, Text, arith, compares, get_or_default, refl, type_of, value_at, value_of}
use Rattle.expr_eval.proofs.Onto.{each_is}
use Rattle.expr_eval.proofs.Operands.{arith_not_text}
use Rattle.expr_eval.proofs.Comparisons.{plain_is_number}
use Rattle.expr_eval.proofs.condition.text_compared.Goals as goal

pub texts_beside-requires : goal.texts_beside-requires
unfolding type_of
texts_beside-requires c = grind (arith, get_or_default)

pub unreachable-requires : goal.unreachable-requires
unfolding type_of
unreachable-requires c = grind (arith, plain_is_number)

pub unreachable-requires-in-Arith : goal.unreachable-requires-in-Arith
unfolding type_of
unreachable-requires-in-Arith c = arith_not_text _ _ (rw c.in-Arith.is at c.requires.is_text)

pub returns : goal.returns
unfolding value_of
returns c = IfOk-weaker c.texts_beside.result _ _ (λ m e.
    each_is (λ v. compares c.args.op v (Text c.args.text.now)) (λ row. value_at row c.in-Column.c)
    (λ row. compares c.args.op (value_of c.args.expr.now row) (Text c.args.text.now))
    c.args.chunk.now.rows e c.column.ensures.values (λ row. rw c.in-Column.is refl))
    (rw c.as_slice.ensures at c.texts_beside.ensures)
