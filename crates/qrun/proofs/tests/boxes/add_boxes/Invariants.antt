use Rattle.std.proofs.Common.{map}
use Rattle.qrun.specs.Stocking.{Adds}
use Rattle.qrun.proofs.tests.boxes.add_boxes.Given as goal

abbrev pub invariant-loop-n : goal.invariant-loop-n
invariant-loop-n g l = Adds l.kind l.n
    (map (λ b. (goal.Processor-dyn g (b.vtable, b.value)).seen b.value) l.initial.rack.boxes.items)
    (map (λ b. (goal.Processor-dyn g (b.vtable, b.value)).seen b.value) l.rack.boxes.items)
