use Rattle.expr_eval.proofs.Imports.{IfOk-weaker, Text, compared, passes, refl, text_cmp}
use Rattle.expr_eval.proofs.Applied.{masked_pairs}
use Rattle.expr_eval.proofs.condition.texts_and_column.Goals as goal

pub returns : goal.returns
returns c = rw c.in-Texts.is (IfOk-weaker c.text_mask.result _ _ (λ m e.
    masked_pairs Text Text (λ a b. passes c.args.op (compared a b))
    (λ a b. passes c.args.op (text_cmp a b)) c.args.texts.now c.in-Texts.others.now
    e refl refl (λ a b. refl)) c.text_mask.ensures)
