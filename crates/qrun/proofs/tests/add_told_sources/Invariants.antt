use Rattle.std.proofs.Common.{map, Some}
use Rattle.outside_io.specs.Told.{files_of}
use Rattle.qrun.specs.Stocking.{AddsTold}
use Rattle.qrun.proofs.tests.add_told_sources.Given as goal

abbrev pub invariant-loop-n : goal.invariant-loop-n
invariant-loop-n g l = AddsTold l.kind l.n (Some (files_of l.files))
    (map (λ b. (goal.Processor-dyn g (b.vtable, b.value)).seen b.value) l.initial.rack.boxes.items)
    (map (λ b. (goal.Processor-dyn g (b.vtable, b.value)).seen b.value) l.rack.boxes.items)
