use Rattle.expr_eval.proofs.Imports.{IfOk-weaker, arith, both_or_either, compares, comparison, has_truth, not, operand_value, opposite_unless, sym, truth_of, ◌∙◌}
use Rattle.expr_eval.proofs.Onto.{pairs_are, same_maps}
use Rattle.expr_eval.proofs.NullLaws.{truth_of_and, truth_of_comparison, truth_of_not, truth_of_or}
use Rattle.expr_eval.proofs.condition.+truth_mask.Goals as goal

pub returns-in-Compare : goal.returns-in-Compare
unfolding truth_of
returns-in-Compare t c =
    let wanted = c.args.wanted in
    let op = c.in-Compare.op in
    let l = c.in-Compare.left in
    let r = c.in-Compare.right in
    rw c.in-Compare.is (IfOk-weaker c.compare.result _ _ (λ m h. h
    ∙ same_maps (λ row. compares (opposite_unless wanted op) (operand_value l row)
    (operand_value r row)) (λ row. has_truth wanted (comparison op (operand_value l row)
    (operand_value r row))) c.args.chunk.now.rows (λ row. sym (truth_of_comparison wanted op
    (operand_value l row) (operand_value r row))))
    (rw c.opposite_unless.ensures at c.compare.ensures))

pub returns-in_ok-others-in-And : goal.returns-in_ok-others-in-And
unfolding truth_of
returns-in_ok-others-in-And t c =
    let wanted = c.args.wanted in
    let l = c.deref.result.now in
    let r = c.deref-in-And.result.now in
    pairs_are (both_or_either wanted) (λ row. has_truth wanted (truth_of l row))
    (λ row. has_truth wanted (truth_of r row))
    (λ row. has_truth wanted (truth_of c.args.cond.now row)) c.args.chunk.now.rows
    (rw c.as_slice.ensures.value at c.both_or_either.ensures) c.in_ok-truths-in-And.ensures
    c.in_ok-others-in-And.ensures
    (λ row. rw (c.in-And.is, ← c.deref.ensures, ← c.deref-in-And.ensures)
    (truth_of_and wanted (truth_of l row) (truth_of r row)))

pub returns-in_ok-others-in-Or : goal.returns-in_ok-others-in-Or
unfolding truth_of
returns-in_ok-others-in-Or t c =
    let wanted = c.args.wanted in
    let l = c.deref-in-Or.result.now in
    let r = c.deref-in-Or-2.result.now in
    pairs_are (both_or_either (not wanted)) (λ row. has_truth wanted (truth_of l row))
    (λ row. has_truth wanted (truth_of r row))
    (λ row. has_truth wanted (truth_of c.args.cond.now row)) c.args.chunk.now.rows
    (rw c.as_slice-in-Or.ensures.value at c.both_or_either-in-Or.ensures)
    c.in_ok-truths-in-Or.ensures c.in_ok-others-in-Or.ensures
    (λ row. rw (c.in-Or.is, ← c.deref-in-Or.ensures, ← c.deref-in-Or-2.ensures)
    (truth_of_or wanted (truth_of l row) (truth_of r row)))

pub returns-in-Not : goal.returns-in-Not
unfolding truth_of
returns-in-Not t c = search (arith, same_maps, has_truth, truth_of_not)

pub returns-in-IsNull : goal.returns-in-IsNull
unfolding truth_of
returns-in-IsNull t c = rw c.in-IsNull.is c.null_test.ensures
