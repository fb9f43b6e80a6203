use Rattle.node_ends.proofs.Imports.{bodies_of, length, seats_of, vec_capacity, ◌++◌, ◌+◌, ◌≡◌, ◌≤◌}
use Rattle.node_ends.proofs.cells_survey.take_apart.Given as goal

abbrev pub invariant-loop-node : goal.invariant-loop-node
invariant-loop-node g l = record {
  bodies : l.bodies.items ++ bodies_of l.cells.items ≡ bodies_of l.initial.cells.items;
  seats : l.seats.items ++ seats_of l.cells.items ≡ seats_of l.initial.cells.items;
  done : length l.bodies.items ≡ l._node;
  seats_done : length l.seats.items ≡ l._node;
  left : l._node + length l.cells.items ≡ length l.initial.cells.items;
  room : vec_capacity l.initial.cells ≤ vec_capacity l.cells;
  bodies_room : vec_capacity l.initial.bodies ≤ vec_capacity l.bodies;
  seats_room : vec_capacity l.initial.seats ≤ vec_capacity l.seats;
}
