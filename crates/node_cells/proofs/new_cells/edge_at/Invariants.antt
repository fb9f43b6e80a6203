use Rattle.node_cells.proofs.Imports.{false, wire_at, ℕ, ◌<◌, ◌≡◌}
use Rattle.node_cells.specs.NewCells.{ends_at}
use Rattle.node_cells.proofs.new_cells.edge_at.Given as goal

abbrev pub invariant-loop-e : goal.invariant-loop-e
invariant-loop-e l = (d : ℕ) → d < l.e → ends_at (wire_at l.wires d) l.n l.port ≡ false
