use Rattle.expr_eval.proofs.Imports.{IfOk-weaker, Some, ap, has_truth, is_null, not, number_of, plain_of, refl, sym, value_of, ◌∙◌, ◌≡◌}
use Rattle.expr_eval.proofs.Onto.{each_is, same_maps, same_value}
use Rattle.expr_eval.proofs.Operands.{plain_value_of}
use Rattle.expr_eval.proofs.Comparisons.{plain_is_valid}
use Rattle.expr_eval.proofs.NullLaws.{truth_of_valid}
use Rattle.expr_eval.proofs.condition.expression_null_test.Goals as goal

pub returns-in-Some : goal.returns-in-Some
returns-in-Some c =
    let wanted = c.args.wanted in
    let z = number_of c.in-Some.field-0 in
    let e : plain_of c.args.expr.now ≡ Some z = rw c.in-Some.is at c.plain_number.ensures in
    IfOk-weaker c.filled.result _ _ (λ m h. h ∙ same_value (not wanted) c.args.chunk.now.rows
    ∙ same_maps (λ row. not wanted)
    (λ row. has_truth wanted (Some (is_null (value_of c.args.expr.now row)))) c.args.chunk.now.rows
    (λ row. sym (ap (λ v. has_truth wanted (Some (is_null v)))
    (plain_value_of c.args.expr.now z row e)
    ∙ ap (λ b. has_truth wanted (Some b)) (plain_is_valid z) ∙ truth_of_valid wanted)))
    (rw c.rows.ensures.count at c.filled.ensures)

pub returns-in_ok-column-in-None : goal.returns-in_ok-column-in-None
returns-in_ok-column-in-None c = IfOk-weaker c.null_mask.result _ _ (λ m h.
    each_is (λ v. has_truth c.args.wanted (Some (is_null v))) (value_of c.args.expr.now)
    (λ row. has_truth c.args.wanted (Some (is_null (value_of c.args.expr.now row))))
    c.args.chunk.now.rows h c.column_at.ensures.values (λ row. refl)) c.null_mask.ensures
