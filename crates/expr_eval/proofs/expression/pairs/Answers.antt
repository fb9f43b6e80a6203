use Rattle.expr_eval.proofs.Imports.{IfOk-weaker, ap, arith, arith_value, column_type, column_validity, false, nullable_if, result_plain, stored_values, with_nulls, ◌∙◌}
use Rattle.expr_eval.proofs.Onto.{length-pairs}
use Rattle.expr_eval.proofs.NullLaws.{pairs-nulls, type_of_pairs}
use Rattle.expr_eval.proofs.expression.pairs.Goals as goal

pub null_where-requires : goal.null_where-requires
null_where-requires c =
    let long = length-pairs (λ p. arith_value c.args.op p.0 p.1) _ _ c.in_ok-made.ensures.values
    (omega (arith, c.plain.ensures.long, c.plain-2.ensures.long, c.requires.long)) in
    omega (arith, long, c.plain.ensures.long)

pub null_where-requires-2 : goal.null_where-requires-2
null_where-requires-2 c =
    let long = length-pairs (λ p. arith_value c.args.op p.0 p.1) _ _ c.in_ok-made.ensures.values
    (omega (arith, c.plain.ensures.long, c.plain-2.ensures.long, c.requires.long)) in
    omega (arith, long, c.in_ok-left_nulled.ensures.long, c.plain.ensures.long, c.requires.long)

pub returns-clause-kind : goal.returns-clause-kind
returns-clause-kind c = IfOk-weaker c.null_where-2.result _ _ (λ made h.
    type_of_pairs c.args.op (column_type c.args.left.now) (column_type c.args.right.now) _ _ _
    c.requires.alike.0 (c.in_ok-made.ensures.kind
    ∙ ap (λ p. nullable_if false (result_plain c.args.op p)) c.plain.ensures.kind)
    c.in_ok-left_nulled.ensures.kind h) c.null_where-2.ensures.kind

pub returns-clause-values : goal.returns-clause-values
returns-clause-values c =
    let l = c.args.left.now in
    let r = c.args.right.now in
    let made = rw (c.plain.ensures.values, c.plain-2.ensures.values) at
    c.in_ok-made.ensures.values in
    IfOk-weaker c.null_where-2.result _ _ (λ both h. h ∙ ap (with_nulls (column_validity r))
    (c.in_ok-left_nulled.ensures.values ∙ ap (with_nulls (column_validity l)) made)
    ∙ pairs-nulls c.args.op (column_validity l) (column_validity r) (stored_values l)
    (stored_values r)) c.null_where-2.ensures.values
