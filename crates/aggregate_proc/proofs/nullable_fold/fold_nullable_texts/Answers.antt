use Rattle.aggregate_proc.proofs.Imports.{Text, [], ap, arith, cond, get_or, get_or_default, option_map, sym, text_value, values, ◌∙◌, ◌≡◌}
use Rattle.aggregate_proc.proofs.NextLaws.{starts-nullable-text}
use Rattle.aggregate_proc.proofs.PutLaws.{step-keep, step-push, step-set}
use Rattle.aggregate_proc.proofs.nullable_fold.fold_nullable_texts.Goals.{then-place-len+then-replaces_nullable+in_ok-states+in-None-1, then-place-len+then-replaces_nullable+in_ok-states+in-Some-1, then-place-len+else-replaces_nullable, else-place-len+in_ok-copy_text+in_ok-push}
use Rattle.aggregate_proc.proofs.nullable_fold.fold_nullable_texts.Goals as goal

pub loop-i-preserved : goal.loop-i-preserved
loop-i-preserved c =
    let vs = values c.args.column.now in
    let v = text_value (option_map (λ t. t.now) c.text_at-text.result) in
    let at : get_or vs c.loop-i.i v ≡ v = get_or_default vs c.loop-i.i v (Text [])
    (omega (arith, c.requires.long)) ∙ sym c.text_at-text.ensures in
    elim c.if-place-len.branch [
      | then-place-len+then-replaces_nullable+in_ok-states+in-None-1 w ↦
          step-set c.args.op text_value c.loop-i.states.items c.args.places.now vs c.loop-i.i v
          (omega arith) (omega (arith, c.requires.long)) at _ w.in_ok-states.field-0
          w.index.result.now (ap (λ l. l.items) w.states-is) (omega arith) w.index.ensures
          (w.in_ok-states.ensures ∙ sym (w.replaces_nullable.ensures
          ∙ ap (λ t. cond t v (text_value w.index.result.now)) w.if-replaces_nullable.true))
          ∙ c.loop-i.invariant
      | then-place-len+then-replaces_nullable+in_ok-states+in-Some-1 w ↦
          step-set c.args.op text_value c.loop-i.states.items c.args.places.now vs c.loop-i.i v
          (omega arith) (omega (arith, c.requires.long)) at _ w.in_ok-states.field-0
          w.index.result.now (ap (λ l. l.items) w.states-is) (omega arith) w.index.ensures
          (w.in_ok-states.ensures ∙ sym (w.replaces_nullable.ensures
          ∙ ap (λ t. cond t v (text_value w.index.result.now)) w.if-replaces_nullable.true))
          ∙ c.loop-i.invariant
      | then-place-len+else-replaces_nullable w ↦
          step-keep c.args.op text_value c.loop-i.states.items c.args.places.now vs c.loop-i.i v
          (omega arith) (omega (arith, c.requires.long)) at _ w.index.result.now
          (ap (λ l. l.items) w.states-is) (omega arith) w.index.ensures
          (sym (w.replaces_nullable.ensures
          ∙ ap (λ t. cond t v (text_value w.index.result.now)) w.if-replaces_nullable.false))
          ∙ c.loop-i.invariant
      | else-place-len+in_ok-copy_text+in_ok-push w ↦
          step-push c.args.op text_value c.loop-i.states.items c.args.places.now vs c.loop-i.i v
          (omega arith) (omega (arith, c.requires.long)) at _ w.in_ok-copy_text.field-0
          (ap (λ l. l.items) w.states-is ∙ w.in_ok-push.ensures.items) (omega arith)
          (w.in_ok-copy_text.ensures
          ∙ sym (starts-nullable-text c.args.op (option_map (λ t. t.now) c.text_at-text.result)
          c.requires.op)) ∙ c.loop-i.invariant
    ]
