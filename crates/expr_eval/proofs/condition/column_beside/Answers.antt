use Rattle.expr_eval.proofs.Imports.{and_valid, ap, column_validity, compared, map, number_of, passes, plain_value, ◌∙◌}
use Rattle.expr_eval.proofs.Comparisons.{plain_is_valid}
use Rattle.expr_eval.proofs.NullLaws.{compares-one}
use Rattle.expr_eval.proofs.condition.column_beside.Goals as goal

pub returns : goal.returns
returns c =
    let k = plain_value (number_of c.args.n) in
    c.where_valid.ensures.is ∙ ap (and_valid (column_validity c.args.column.now))
    (c.in_ok-mask.ensures ∙ ap (map (λ v. passes c.args.op (compared v k))) c.plain.ensures.values)
    ∙ compares-one c.args.op k (plain_is_valid (number_of c.args.n)) c.args.column.now
