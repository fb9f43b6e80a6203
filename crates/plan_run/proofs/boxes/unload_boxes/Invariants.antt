use Rattle.plan_run.proofs.Imports.{FirstBoxes, Unloads, map}
use Rattle.plan_run.proofs.boxes.unload_boxes.Given as goal

abbrev pub invariant-loop-i : goal.invariant-loop-i
invariant-loop-i g l =
    FirstBoxes l.i (λ n. Unloads) (map g.P.Processor.seen l.initial.boxes.items)
    (map g.P.Processor.seen l.boxes.items)
