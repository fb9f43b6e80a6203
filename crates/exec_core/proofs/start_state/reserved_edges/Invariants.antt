use Rattle.exec_core.proofs.Imports.{drop, reserved_edge_count, ◌+◌, ◌≡◌}
use Rattle.exec_core.proofs.start_state.reserved_edges.Given as goal

abbrev pub invariant-loop-r : goal.invariant-loop-r
invariant-loop-r l =
    reserved_edge_count l.reserves ≡ l.edges + reserved_edge_count (drop l.r-index l.reserves)
