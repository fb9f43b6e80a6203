use Rattle.node_ends.proofs.Imports.{bodies_of, length, seats_of, vec_capacity, ◌++◌, ◌+◌, ◌≡◌, ◌≤◌}
use Rattle.node_ends.proofs.cells_survey.put_together.Given as goal

abbrev pub invariant-loop-node : goal.invariant-loop-node
invariant-loop-node g l = record {
  bodies : bodies_of l.cells.items ++ l.bodies.items ≡ l.initial.bodies.items;
  seats : seats_of l.cells.items ++ l.seats.items ≡ l.initial.seats.items;
  done : length l.cells.items ≡ l._node;
  left : l._node + length l.bodies.items ≡ length l.initial.bodies.items;
  seats_left : length l.seats.items ≡ length l.bodies.items;
  room : vec_capacity l.initial.cells ≤ vec_capacity l.cells;
  bodies_room : vec_capacity l.initial.bodies ≤ vec_capacity l.bodies;
  seats_room : vec_capacity l.initial.seats ≤ vec_capacity l.seats;
}
