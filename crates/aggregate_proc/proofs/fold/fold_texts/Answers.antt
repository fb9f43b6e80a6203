use Rattle.aggregate_proc.proofs.Imports.{[], ap, ap₂, arith, cond, get_or, next_folded, sym, ◌∙◌, ◌≡◌}
use Rattle.aggregate_proc.proofs.NextLaws.{starts-text}
use Rattle.aggregate_proc.proofs.PutLaws.{keep-next, push-next, set-next}
use Rattle.chunk_data.specs.declared.typed_value.Value.TheVariants as value
use Rattle.aggregate_proc.proofs.fold.fold_texts.Goals.{then-place-len+then-replaces+in_ok-states, then-place-len+else-replaces, else-place-len+in_ok-from_slice+in_ok-push}
use Rattle.aggregate_proc.proofs.fold.fold_texts.Goals as goal

pub loop-i-preserved : goal.loop-i-preserved
loop-i-preserved c =
    let text : c.get-text.result.now ≡ get_or c.args.texts.now c.loop-i.i [] = c.get-text.ensures in
    elim c.if-place-len.branch [
      | then-place-len+then-replaces+in_ok-states w ↦
          set-next c.args.op value.Text c.loop-i.states.items c.args.places.now c.args.texts.now
          c.loop-i.i [] (omega arith) c.requires.long _ w.in_ok-states.field-0 w.index.result.now
          (ap (λ l. l.items) w.states-is) (omega arith) w.index.ensures
          (ap value.Text w.in_ok-states.ensures
          ∙ sym (ap₂ (λ a b. next_folded c.args.op (value.Text a) (value.Text b))
          (sym w.as_slice.ensures) (sym text) ∙ w.replaces.ensures
          ∙ ap (λ t. cond t (value.Text c.get-text.result.now) (value.Text w.as_slice.result.now))
          w.if-replaces.true)) ∙ c.loop-i.invariant
      | then-place-len+else-replaces w ↦
          keep-next c.args.op value.Text c.loop-i.states.items c.args.places.now c.args.texts.now
          c.loop-i.i [] (omega arith) c.requires.long _ w.index.result.now
          (ap (λ l. l.items) w.states-is) (omega arith) w.index.ensures
          (sym (ap₂ (λ a b. next_folded c.args.op (value.Text a) (value.Text b))
          (sym w.as_slice.ensures) (sym text) ∙ w.replaces.ensures
          ∙ ap (λ t. cond t (value.Text c.get-text.result.now) (value.Text w.as_slice.result.now))
          w.if-replaces.false ∙ ap value.Text w.as_slice.ensures)) ∙ c.loop-i.invariant
      | else-place-len+in_ok-from_slice+in_ok-push w ↦
          push-next c.args.op value.Text c.loop-i.states.items c.args.places.now c.args.texts.now
          c.loop-i.i [] (omega arith) c.requires.long _ w.in_ok-from_slice.field-0
          (ap (λ l. l.items) w.states-is ∙ w.in_ok-push.ensures.items) (omega arith)
          (ap value.Text (w.in_ok-from_slice.ensures ∙ text)
          ∙ sym (starts-text c.args.op (get_or c.args.texts.now c.loop-i.i []) c.requires.op))
          ∙ c.loop-i.invariant
    ]
