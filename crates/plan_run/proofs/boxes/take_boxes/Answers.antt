use Rattle.plan_run.proofs.Imports.{arith, kinds_taken, sym, ◌∙◌}
use Rattle.plan_run.proofs.Taking.{kinds-length, left-more, more-kinds, next-there, taken-more}
use Rattle.plan_run.proofs.boxes.take_boxes.Goals as goal

pub take_next-requires-clause-there : goal.take_next-requires-clause-there
take_next-requires-clause-there g c =
    next-there (kinds_taken c.args.specs.now.items c.args.kept.now) c.loop-i.i c.kind_taken.result
    _ _ c.requires.stock c.loop-i.invariant.left
    (omega (arith, kinds-length c.args.specs.now.items c.args.kept.now)) (sym c.kind_taken.ensures)

pub loop-i-preserved : goal.loop-i-preserved
loop-i-preserved g c =
    let kinds = kinds_taken c.args.specs.now.items c.args.kept.now in
    let more = more-kinds kinds c.loop-i.i c.kind_taken.result
    (omega (arith, kinds-length c.args.specs.now.items c.args.kept.now))
    (sym c.kind_taken.ensures) in
    record {
      taken = c.take_next.ensures.taken ∙ taken-more kinds c.loop-i.i
          c.kind_taken.result _ _ _ more c.loop-i.invariant.left c.loop-i.invariant.taken;
      left = c.take_next.ensures.left ∙ left-more kinds c.loop-i.i
          c.kind_taken.result _ _ more c.loop-i.invariant.left;
      count = omega arith;
      rest = omega arith;
      room = omega arith;
      rack_room = omega arith;
    }
