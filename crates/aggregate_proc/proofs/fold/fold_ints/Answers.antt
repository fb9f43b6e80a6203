use Rattle.aggregate_proc.proofs.Imports.{SFits, ap, arith, get_or, pos, rules, sym, to_z-of_z, w64, ◌∙◌}
use Rattle.aggregate_proc.proofs.NextLaws.{starts-int}
use Rattle.aggregate_proc.proofs.PutLaws.{push-next, set-next}
use Rattle.chunk_data.specs.declared.typed_value.Value.TheVariants as value
use Rattle.aggregate_proc.proofs.fold.fold_ints.Goals.{then-place-len, else-place-len+in_ok-push}
use Rattle.aggregate_proc.proofs.fold.fold_ints.Goals as goal

pub loop-i-preserved : goal.loop-i-preserved
loop-i-preserved c =
    let number : SFits w64 (get_or c.args.numbers.now c.loop-i.i (pos 0)) = search rules in
    elim c.if-place-len.branch [
      | then-place-len w ↦
          let next : SFits w64 w.next_int.result = search rules in
          let here : SFits w64 w.index.result.now = search rules in
          let r = simp to_z-of_z at w.next_int.ensures in
          let s = simp to_z-of_z at w.states-is in
          set-next c.args.op value.Int c.loop-i.states.items c.args.places.now c.args.numbers.now
          c.loop-i.i (pos 0) (omega arith) c.requires.long _ w.next_int.result w.index.result.now
          (ap (λ l. l.items) s) (omega arith) w.index.ensures r ∙ c.loop-i.invariant
      | else-place-len+in_ok-push w ↦
          let s = simp to_z-of_z at w.in_ok-push.ensures.items in
          push-next c.args.op value.Int c.loop-i.states.items c.args.places.now c.args.numbers.now
          c.loop-i.i (pos 0) (omega arith) c.requires.long _
          (get_or c.args.numbers.now c.loop-i.i (pos 0))
          (ap (λ l. l.items) w.states-is ∙ s) (omega arith)
          (sym (starts-int c.args.op _ c.requires.op number)) ∙ c.loop-i.invariant
    ]
