use Rattle.node_cells.specs.NewCells.{AreEdgesAndPeers}
use Rattle.node_cells.proofs.new_cells.ends_of.Given as goal

abbrev pub invariant-loop-k : goal.invariant-loop-k
invariant-loop-k l = AreEdgesAndPeers l.wires l.n l.consumer l.k l.edges.items l.peers.items
