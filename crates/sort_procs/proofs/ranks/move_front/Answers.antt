use Rattle.std.proofs.Common.{arith, sym, ◌∙◌}
use Rattle.sort_procs.proofs.RankLaws.{front-moved, front-stays, split-moved}
use Rattle.sort_procs.proofs.ranks.move_front.Goals.{then-is_before, else-is_before}
use Rattle.sort_procs.proofs.ranks.move_front.Goals as goal

pub loop-i-preserved : goal.loop-i-preserved
loop-i-preserved c =
    let rows = c.args.rows.now in
    let keys = c.args.keys.now in
    let pivot = c.args.pivot in
    let h = c.loop-i.invariant in
    elim c.if-is_before.branch [
      | then-is_before w ↦ rw (w.ranks-is, w.count-is)
          (front-moved rows keys pivot c.loop-i.i c.loop-i.count _ c.loop-i.ranks _ h
          (omega (arith, c.loop-i-test.true, h.long, c.loop-i.auto.i-end))
          (sym w.if-is_before.true ∙ c.is_before.ensures) w.swap.ensures.permutation
          w.swap.ensures.len w.swap.ensures.by_index.0 w.swap.ensures.by_index.1
          w.swap.ensures.by_index.2)
      | else-is_before w ↦ rw (w.ranks-is, w.count-is)
          (front-stays rows keys pivot c.loop-i.i c.loop-i.count _ c.loop-i.ranks h
          (omega (arith, c.loop-i-test.true, h.long, c.loop-i.auto.i-end))
          (sym w.if-is_before.false ∙ c.is_before.ensures))
    ]

pub returns-clause-split : goal.returns-clause-split
returns-clause-split c =
    split-moved c.args.rows.now c.args.keys.now c.args.pivot c.loop-i.i c.loop-i.count _
    c.loop-i.ranks c.loop-i.invariant
    (omega (arith, c.loop-i-test.false, c.loop-i.invariant.long, c.loop-i.auto.i-end))
