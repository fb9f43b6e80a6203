use Rattle.expr_eval.proofs.Imports.{IfOk-weaker, ap, false, map, not, replicate, sym, true, values, ◌∙◌}
use Rattle.expr_eval.proofs.Onto.{same_value}
use Rattle.expr_eval.proofs.NullLaws.{no_nulls, nulls_of, valid_is_not_null}
use Rattle.expr_eval.proofs.validity.null_mask.Goals as goal

pub returns-in-None : goal.returns-in-None
returns-in-None c = IfOk-weaker c.filled.result _ _ (λ m h. h
    ∙ ap (λ n. replicate n (not c.args.wanted)) c.len.ensures
    ∙ same_value (not c.args.wanted) (values c.args.column.now)
    ∙ no_nulls c.args.wanted c.args.column.now (rw c.in-None.is at c.validity.ensures.is))
    c.filled.ensures

pub returns-then-wanted : goal.returns-then-wanted
returns-then-wanted c = rw c.if-wanted.true
    (c.negated.ensures ∙ ap (map (λ m. not m)) c.in_ok-valid-in-Some.ensures.items
    ∙ nulls_of true c.args.column.now c.in-Some.validity.now
    (rw c.in-Some.is at c.validity.ensures.is) (rw c.in-Some.is at c.validity.ensures.long))

pub returns-else-wanted : goal.returns-else-wanted
returns-else-wanted c = rw c.if-wanted.false
    (c.in_ok-valid-in-Some.ensures.items ∙ sym (valid_is_not_null c.in-Some.validity.now)
    ∙ nulls_of false c.args.column.now c.in-Some.validity.now
    (rw c.in-Some.is at c.validity.ensures.is) (rw c.in-Some.is at c.validity.ensures.long))
