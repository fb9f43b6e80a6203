use Rattle.expr_eval.proofs.Imports.{None, Some, and_valid, ap, column_validity, sym, ◌&&◌, ◌∙◌, ◌≡◌}
use Rattle.expr_eval.proofs.Onto.{length-pairs}
use Rattle.expr_eval.proofs.NullLaws.{common_is_valid}
use Rattle.expr_eval.proofs.validity.where_valid.Goals as goal

pub both-requires : goal.both-requires
both-requires c = (rw c.in-Some.is at c.validity.ensures.long) ∙ sym c.requires

pub returns-in-None-clause-is : goal.returns-in-None-clause-is
returns-in-None-clause-is c =
    let none : None ≡ column_validity c.args.column.now =
    rw c.in-None.is at c.validity.ensures.is in
    ap (λ v. and_valid v c.args.mask.items) none

pub returns-in-Some-clause-is : goal.returns-in-Some-clause-is
returns-in-Some-clause-is c =
    let v = c.in-Some.validity.now in
    let some : Some v ≡ column_validity c.args.column.now =
    rw c.in-Some.is at c.validity.ensures.is in
    c.both.ensures ∙ common_is_valid v c.args.mask.items
    ∙ ap (λ o. and_valid o c.args.mask.items) some

pub returns-in-Some-clause-long : goal.returns-in-Some-clause-long
returns-in-Some-clause-long c =
    length-pairs (λ p. p.0 && p.1) c.args.mask.items c.in-Some.validity.now c.both.ensures
    ((rw c.in-Some.is at c.validity.ensures.long) ∙ sym c.requires)
