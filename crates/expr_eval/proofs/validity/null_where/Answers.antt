use Rattle.expr_eval.proofs.Imports.{None, Some, and_valid, ap, column_validity, length, length-values, length-zip2, or_null, stored_values, values, with_nulls, ◌∙◌, ◌≡◌}
use Rattle.expr_eval.proofs.NullLaws.{type_with, type_without, with_nulls-twice}
use Rattle.expr_eval.proofs.validity.null_where.Goals as goal

pub where_valid-valid-requires : goal.where_valid-valid-requires
where_valid-valid-requires c =
    ap length c.in_ok-copy-in-Some.ensures.items ∙ (rw c.in-Some.is at c.validity.ensures.long)
    ∙ c.requires

pub with_validity-requires : goal.with_validity-requires
with_validity-requires c =
    c.where_valid-valid.ensures.long ∙ ap length c.in_ok-copy-in-Some.ensures.items
    ∙ (rw c.in-Some.is at c.validity.ensures.long) ∙ c.requires

pub returns-in-None-clause-kind : goal.returns-in-None-clause-kind
returns-in-None-clause-kind c =
    type_without c.args.made c.args.column.now (rw c.in-None.is at c.validity.ensures.is)

pub returns-in-None-clause-values : goal.returns-in-None-clause-values
returns-in-None-clause-values c =
    let none : None ≡ column_validity c.args.column.now =
    rw c.in-None.is at c.validity.ensures.is in
    ap (λ v. with_nulls v (values c.args.made)) none

pub returns-in_ok-copy-in-Some-clause-kind : goal.returns-in_ok-copy-in-Some-clause-kind
returns-in_ok-copy-in-Some-clause-kind c =
    c.with_validity.ensures.kind
    ∙ type_with c.args.made c.args.column.now c.in-Some.validity.now
    (rw c.in-Some.is at c.validity.ensures.is)

pub returns-in_ok-copy-in-Some-clause-values : goal.returns-in_ok-copy-in-Some-clause-values
returns-in_ok-copy-in-Some-clause-values c =
    let made = c.args.made in
    let v = c.in-Some.validity.now in
    let some : Some v ≡ column_validity c.args.column.now =
    rw c.in-Some.is at c.validity.ensures.is in
    c.with_validity.ensures.values
    ∙ ap (λ m. with_nulls (Some m) (stored_values made)) (c.where_valid-valid.ensures.is
    ∙ ap (and_valid (column_validity made)) c.in_ok-copy-in-Some.ensures.items)
    ∙ with_nulls-twice (column_validity made) v (stored_values made)
    ∙ ap (λ o. with_nulls o (values made)) some

pub returns-in_ok-copy-in-Some-clause-long : goal.returns-in_ok-copy-in-Some-clause-long
returns-in_ok-copy-in-Some-clause-long c =
    let made = c.args.made in
    let long : length c.where_valid-valid.result.items ≡ length (values made) =
    c.where_valid-valid.ensures.long ∙ ap length c.in_ok-copy-in-Some.ensures.items
    ∙ (rw c.in-Some.is at c.validity.ensures.long) ∙ c.requires in
    ap length c.with_validity.ensures.values
    ∙ length-zip2 or_null c.where_valid-valid.result.items (stored_values made)
    (long ∙ length-values made) ∙ long
