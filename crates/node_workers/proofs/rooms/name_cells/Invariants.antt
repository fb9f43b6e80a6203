use Rattle.node_workers.proofs.Imports.{as_named, length, map, reverse, vec_capacity, ◌++◌, ◌+◌, ◌≡◌, ◌≤◌}
use Rattle.node_workers.proofs.rooms.name_cells.Given as goal

abbrev pub invariant-loop-cell : goal.invariant-loop-cell
invariant-loop-cell g l = record {
  all : l.room.items ++ map as_named (reverse l.cells.items) ≡ map as_named l.fn.cells.items;
  room : length l.room.items + length l.cells.items ≤ vec_capacity l.room;
  same : vec_capacity l.cells ≡ vec_capacity l.fn.cells;
}

abbrev pub decreases-loop-cell : goal.decreases-loop-cell
decreases-loop-cell g l = length l.cells.items
