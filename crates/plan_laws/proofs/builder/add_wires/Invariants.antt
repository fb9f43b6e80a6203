use Rattle.std.proofs.Common.{◌++◌, ◌≡◌}
use Rattle.plan_laws.proofs.Imports.{wires_to, run_of}
use Rattle.plan_laws.proofs.builder.add_wires.Given as goal

abbrev pub invariant-loop-i : goal.invariant-loop-i
invariant-loop-i l = l.wires ≡ l.initial.wires ++ wires_to l.number 0
    (run_of l.node.offset l.i l.ends)
