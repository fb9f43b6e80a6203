use Rattle.expr_eval.proofs.Imports.{IfOk-weaker, ap, arith_value, column_type, column_validity, false, length, length-map, map, nullable_if, number_of, plain_value, result_plain, stored_values, swap_if, sym, with_nulls, ◌∙◌}
use Rattle.expr_eval.proofs.NullLaws.{beside-nulls, type_of_beside}
use Rattle.expr_eval.proofs.expression.beside.Goals as goal

pub null_where-requires : goal.null_where-requires
null_where-requires c =
    sym (ap length c.in_ok-made.ensures.values ∙ length-map _ _ ∙ c.plain.ensures.long)

pub returns-clause-kind : goal.returns-clause-kind
returns-clause-kind c = IfOk-weaker c.null_where.result _ _ (λ made h.
    type_of_beside c.args.op (column_type c.args.column.now) _ _ (c.in_ok-made.ensures.kind
    ∙ ap (λ p. nullable_if false (result_plain c.args.op p)) c.plain.ensures.kind) h)
    c.null_where.ensures.kind

pub returns-clause-values : goal.returns-clause-values
returns-clause-values c =
    let column = c.args.column.now in
    let k = plain_value (number_of c.args.n) in
    IfOk-weaker c.null_where.result _ _ (λ made h. h ∙ ap (with_nulls (column_validity column))
    (c.in_ok-made.ensures.values
    ∙ ap (map (λ v. swap_if c.args.swapped (arith_value c.args.op) v k)) c.plain.ensures.values)
    ∙ beside-nulls c.args.swapped c.args.op k (column_validity column) (stored_values column))
    c.null_where.ensures.values
