use Rattle.aggregate_proc.proofs.Imports.{ap, arith, get_or, sym, ◌∙◌}
use Rattle.aggregate_proc.proofs.NextLaws.{starts-uint}
use Rattle.aggregate_proc.proofs.PutLaws.{push-next, set-next}
use Rattle.chunk_data.specs.declared.typed_value.Value.TheVariants as value
use Rattle.aggregate_proc.proofs.fold.fold_uints.Goals.{then-place-len, else-place-len+in_ok-push}
use Rattle.aggregate_proc.proofs.fold.fold_uints.Goals as goal

pub loop-i-preserved : goal.loop-i-preserved
loop-i-preserved c =
    elim c.if-place-len.branch [
      | then-place-len w ↦
          set-next c.args.op value.UInt c.loop-i.states.items c.args.places.now c.args.numbers.now
          c.loop-i.i 0 (omega arith) c.requires.long _ w.next_uint.result w.index.result.now
          (ap (λ l. l.items) w.states-is) (omega arith) w.index.ensures w.next_uint.ensures
          ∙ c.loop-i.invariant
      | else-place-len+in_ok-push w ↦
          push-next c.args.op value.UInt c.loop-i.states.items c.args.places.now c.args.numbers.now
          c.loop-i.i 0 (omega arith) c.requires.long _ (get_or c.args.numbers.now c.loop-i.i 0)
          (ap (λ l. l.items) w.states-is ∙ w.in_ok-push.ensures.items) (omega arith)
          (sym (starts-uint c.args.op _ c.requires.op
          (omega (arith, c.type_inv.numbers c.loop-i.i))))
          ∙ c.loop-i.invariant
    ]
