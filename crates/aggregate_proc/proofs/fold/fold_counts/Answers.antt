use Rattle.aggregate_proc.proofs.NextLaws.{counted-first, counted-one}
use Rattle.aggregate_proc.proofs.PutLaws.{step-push, step-set}
use Rattle.aggregate_proc.proofs.Imports.{ap, arith, get_or, get_or_default, ◌∙◌}
use Rattle.aggregate_proc.proofs.fold.fold_counts.Goals.{else-place-len+in_ok-push, then-place-len}
use Rattle.chunk_data.specs.declared.typed_value.Value.TheVariants as value
use Rattle.aggregate_proc.specs.declared.fold.Fold.TheVariants as fold
use Rattle.aggregate_proc.proofs.fold.fold_counts.Goals as goal

pub loop-i-preserved : goal.loop-i-preserved
loop-i-preserved c = λ vs e.
    let v = get_or vs c.loop-i.i (value.UInt 0) in
    let at = get_or_default vs c.loop-i.i v (value.UInt 0) (omega (arith, e)) in
    elim c.if-place-len.branch [
      | then-place-len w ↦
          step-set fold.Count value.UInt c.loop-i.states.items c.args.places.now vs c.loop-i.i v
          (omega arith) (omega (arith, e)) at _ _ w.index.result.now (ap (λ l. l.items) w.states-is)
          (omega arith) w.index.ensures (counted-one w.index.result.now v) ∙ c.loop-i.invariant vs e
      | else-place-len+in_ok-push w ↦
          step-push fold.Count value.UInt c.loop-i.states.items c.args.places.now vs c.loop-i.i v
          (omega arith) (omega (arith, e)) at _ 1
          (ap (λ l. l.items) w.states-is ∙ w.in_ok-push.ensures.items) (omega arith)
          (counted-first v) ∙ c.loop-i.invariant vs e
    ]
