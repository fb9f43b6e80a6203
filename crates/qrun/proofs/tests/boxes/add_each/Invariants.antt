use Rattle.std.proofs.Common.{map, take}
use Rattle.qrun.specs.Stocking.{AddsEach}
use Rattle.qrun.proofs.tests.boxes.add_each.Given as goal

abbrev pub invariant-loop-i : goal.invariant-loop-i
invariant-loop-i g l = AddsEach (take l.i l.stock)
    (map (λ b. (goal.Processor-dyn g (b.vtable, b.value)).seen b.value) l.initial.rack.boxes.items)
    (map (λ b. (goal.Processor-dyn g (b.vtable, b.value)).seen b.value) l.rack.boxes.items)
