use Rattle.expr_eval.proofs.Imports.{Text, and_valid, ap, column_validity, compared, passes, refl, sym, text_cmp, ◌∙◌}
use Rattle.expr_eval.proofs.Applied.{masked_one}
use Rattle.expr_eval.proofs.NullLaws.{compares-one}
use Rattle.expr_eval.proofs.condition.texts_beside.Goals as goal

pub returns : goal.returns
returns c =
    let text = c.args.text.now in
    c.where_valid.ensures.is ∙ ap (and_valid (column_validity c.args.column.now))
    (masked_one Text (λ v. passes c.args.op (compared v (Text text)))
    (λ x. passes c.args.op (text_cmp x text)) c.in-Texts.texts.now c.in_ok-mask-in-Texts.ensures
    (sym (rw c.in-Texts.is at c.plain.ensures.values)) (λ x. refl))
    ∙ compares-one c.args.op (Text text) refl c.args.column.now
