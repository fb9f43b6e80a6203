use Rattle.std.proofs.Common.{drop, ◌+◌, ◌≡◌}
use Rattle.proc_api.specs.Graphs.{reserved_edges}
use Rattle.exec_graph.proofs.reserves.reserved_edges.Given as goal

abbrev pub invariant-loop-reserve : goal.invariant-loop-reserve
invariant-loop-reserve l =
    reserved_edges l.reserves ≡ l.edges + reserved_edges (drop l.reserve-index l.reserves)
