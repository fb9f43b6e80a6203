use Rattle.graph_checks.proofs.Imports.{drop, is_port_taken, new_wires, ◌++◌, ◌≡◌}
use Rattle.graph_checks.proofs.growths.connect_all.Given as goal

abbrev pub invariant-loop-edge : goal.invariant-loop-edge
invariant-loop-edge l = record {
  taken : is_port_taken l.initial.wires (new_wires l.n l.places l.edges)
      ≡ is_port_taken l.wires (new_wires l.n l.places (drop l.edge-index l.edges));
  all : l.initial.wires ++ new_wires l.n l.places l.edges
      ≡ l.wires ++ new_wires l.n l.places (drop l.edge-index l.edges);
}
