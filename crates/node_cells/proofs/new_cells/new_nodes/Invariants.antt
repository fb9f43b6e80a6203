use Rattle.node_cells.proofs.Imports.{length, ◌≡◌}
use Rattle.node_cells.specs.NewCells.{AreNewNodes}
use Rattle.std.specs.Prelude.{map}
use Rattle.node_cells.proofs.new_cells.new_nodes.Given as goal

abbrev pub invariant-loop-n : goal.invariant-loop-n
invariant-loop-n g l = record {
  len : length l.all.items ≡ l.n;
  new : AreNewNodes l.ranks l.wires l.reserves (map g.P.Processor.seen l.boxes.items) l.all.items;
}
