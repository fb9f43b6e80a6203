use Rattle.std.proofs.Common.{map}
use Rattle.std.specs.List.{All}
use Rattle.proc_api.specs.Clauses.{IsBlank}
use Rattle.qrun.proofs.tests.run_shown.Given as goal

abbrev pub invariant-loop-run : goal.invariant-loop-run
invariant-loop-run g l = All IsBlank
    (map (λ b. (goal.Processor-dyn g (b.vtable, b.value)).seen b.value) l.rack.boxes.items)
