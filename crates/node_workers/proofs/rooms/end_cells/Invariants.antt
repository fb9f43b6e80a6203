use Rattle.node_workers.proofs.Imports.{as_ended, length, map, reverse, vec_capacity, ◌++◌, ◌+◌, ◌≡◌, ◌≤◌}
use Rattle.node_workers.proofs.rooms.end_cells.Given as goal

abbrev pub invariant-loop-cell : goal.invariant-loop-cell
invariant-loop-cell g l = record {
  all : l.room.items ++ map as_ended (reverse l.named.items) ≡ map as_ended l.fn.named.items;
  room : length l.room.items + length l.named.items ≤ vec_capacity l.room;
}

abbrev pub decreases-loop-cell : goal.decreases-loop-cell
decreases-loop-cell g l = length l.named.items
