use Rattle.node_workers.proofs.Imports.{All, IsDequeFor, length, vec_capacity, ◌≡◌, ◌≤◌}
use Rattle.node_workers.proofs.rooms.make_deques.Given as goal

abbrev pub invariant-loop-i : goal.invariant-loop-i
invariant-loop-i l = record {
  many : length l.deques.items ≡ l._i;
  room : l.count ≤ vec_capacity l.deques;
  each : All (IsDequeFor l.nodes) l.deques.items;
}
