use Rattle.aggregate_proc.proofs.Imports.{Text, [], ap, arith, get_or, get_or_default, uint_value, rules, sym, values, ◌∙◌, ◌≡◌}
use Rattle.aggregate_proc.proofs.NextLaws.{starts-nullable-uint}
use Rattle.aggregate_proc.proofs.PutLaws.{step-push, step-set}
use Rattle.aggregate_proc.proofs.nullable_fold.fold_nullable_uints.Goals.{then-place-len, else-place-len+in_ok-push}
use Rattle.aggregate_proc.proofs.nullable_fold.fold_nullable_uints.Goals as goal

pub loop-i-preserved : goal.loop-i-preserved
loop-i-preserved c =
    let vs = values c.args.column.now in
    let v = uint_value c.uint_at-number.result in
    let at : get_or vs c.loop-i.i v ≡ v = get_or_default vs c.loop-i.i v (Text [])
    (omega (arith, c.requires.long)) ∙ sym c.uint_at-number.ensures in
    elim c.if-place-len.branch [
      | then-place-len w ↦
          step-set c.args.op uint_value c.loop-i.states.items c.args.places.now vs c.loop-i.i v
          (omega arith) (omega (arith, c.requires.long)) at _ w.next_nullable_uint.result
          w.index.result.now (ap (λ l. l.items) w.states-is) (omega arith) w.index.ensures
          w.next_nullable_uint.ensures ∙ c.loop-i.invariant
      | else-place-len+in_ok-push w ↦
          step-push c.args.op uint_value c.loop-i.states.items c.args.places.now vs c.loop-i.i v
          (omega arith) (omega (arith, c.requires.long)) at _ c.uint_at-number.result
          (ap (λ l. l.items) w.states-is ∙ w.in_ok-push.ensures.items) (omega arith)
          (sym
          (starts-nullable-uint c.args.op c.uint_at-number.result c.requires.op (search rules)))
          ∙ c.loop-i.invariant
    ]
