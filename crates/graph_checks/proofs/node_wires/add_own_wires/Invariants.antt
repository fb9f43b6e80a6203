use Rattle.graph_checks.proofs.Imports.{drop, own_wire, wires_for, ◌++◌, ◌≡◌}
use Rattle.graph_checks.proofs.node_wires.add_own_wires.Given as goal

abbrev pub invariant-loop-k : goal.invariant-loop-k
invariant-loop-k l =
    l.initial.wires ++ wires_for (own_wire l.consumer l.n) 0 l.peers
    ≡ l.wires ++ wires_for (own_wire l.consumer l.n) l.k (drop l.k l.peers)
