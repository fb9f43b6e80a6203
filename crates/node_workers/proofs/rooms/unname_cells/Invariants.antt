use Rattle.node_workers.proofs.Imports.{length, map, node_cell, reverse, vec_capacity, ◌++◌, ◌+◌, ◌≡◌, ◌≤◌}
use Rattle.node_workers.proofs.rooms.unname_cells.Given as goal

abbrev pub invariant-loop-cell : goal.invariant-loop-cell
invariant-loop-cell g l = record {
  all : l.cells.items ++ map node_cell (reverse l.named.items) ≡ map node_cell l.fn.named.items;
  room : length l.cells.items + length l.named.items ≤ vec_capacity l.cells;
}

abbrev pub decreases-loop-cell : goal.decreases-loop-cell
decreases-loop-cell g l = length l.named.items
