use Rattle.aggregate_proc.proofs.Imports.{Text, [], ap, arith, get_or, get_or_default, int_value, rules, sym, values, ◌∙◌, ◌≡◌}
use Rattle.aggregate_proc.proofs.NextLaws.{starts-nullable-int}
use Rattle.aggregate_proc.proofs.PutLaws.{step-push, step-set}
use Rattle.aggregate_proc.proofs.nullable_fold.fold_nullable_ints.Goals.{then-place-len, else-place-len+in_ok-push}
use Rattle.aggregate_proc.proofs.nullable_fold.fold_nullable_ints.Goals as goal

pub loop-i-preserved : goal.loop-i-preserved
loop-i-preserved c =
    let vs = values c.args.column.now in
    let v = int_value c.int_at-number.result in
    let at : get_or vs c.loop-i.i v ≡ v = get_or_default vs c.loop-i.i v (Text [])
    (omega (arith, c.requires.long)) ∙ sym c.int_at-number.ensures in
    elim c.if-place-len.branch [
      | then-place-len w ↦
          step-set c.args.op int_value c.loop-i.states.items c.args.places.now vs c.loop-i.i v
          (omega arith) (omega (arith, c.requires.long)) at _ w.next_nullable_int.result
          w.index.result.now (ap (λ l. l.items) w.states-is) (omega arith) w.index.ensures
          w.next_nullable_int.ensures ∙ c.loop-i.invariant
      | else-place-len+in_ok-push w ↦
          step-push c.args.op int_value c.loop-i.states.items c.args.places.now vs c.loop-i.i v
          (omega arith) (omega (arith, c.requires.long)) at _ c.int_at-number.result
          (ap (λ l. l.items) w.states-is ∙ w.in_ok-push.ensures.items) (omega arith)
          (sym (starts-nullable-int c.args.op c.int_at-number.result c.requires.op (search rules)))
          ∙ c.loop-i.invariant
    ]
