use Rattle.query_run.proofs.Imports.{edges_kept, reserved_nodes, reserves_behind, take, ◌+◌, ◌≡◌}
use Rattle.query_run.proofs.planning.reserves_of.Given as goal

abbrev pub invariant-loop-reserve : goal.invariant-loop-reserve
invariant-loop-reserve l = record {
  all : l.all.items ≡ reserves_behind l.initial.nodes l.initial.edges
      (take l.reserve-index l.reserves);
  nodes : l.first_node ≡ l.initial.nodes + reserved_nodes (take l.reserve-index l.reserves);
  edges : l.first_edge ≡ l.initial.edges + edges_kept (take l.reserve-index l.reserves);
}
