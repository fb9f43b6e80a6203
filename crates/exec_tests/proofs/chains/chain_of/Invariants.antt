use Rattle.std.proofs.Common.{map}
use Rattle.proc_api.specs.Reserves.{AreStarting}
use Rattle.exec_tests.proofs.chains.chain_of.Given as goal

abbrev pub invariant-loop-node : goal.invariant-loop-node
invariant-loop-node g l =
    AreStarting l.builder.reserves
    (map (λ b. (goal.Processor-dyn g (b.vtable, b.value)).seen b.value) l.builder.boxes.items)
