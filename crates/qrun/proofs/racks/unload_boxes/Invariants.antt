use Rattle.std.proofs.Common.{map}
use Rattle.proc_api.specs.Clauses.{Unloads}
use Rattle.plan_run.specs.Boxes.{FirstBoxes}
use Rattle.qrun.proofs.racks.unload_boxes.Given as goal

abbrev pub invariant-loop-i : goal.invariant-loop-i
invariant-loop-i g l =
    FirstBoxes l.i (λ n. Unloads)
    (map (λ b. (goal.Processor-dyn g (b.vtable, b.value)).seen b.value) l.initial.boxes.items)
    (map (λ b. (goal.Processor-dyn g (b.vtable, b.value)).seen b.value) l.boxes.items)
