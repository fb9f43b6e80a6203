use Rattle.node_workers.proofs.Imports.{All, IsIdleSeatOf, IsWorkerOver, WorkerHasEnded, identity_of, length, parts, parts_of, total_over, vec_capacity, ◌+◌, ◌≡◌, ◌≤◌}
use Rattle.node_workers.proofs.run.part_workers.Given as goal

abbrev pub invariant-loop-worker : goal.invariant-loop-worker
invariant-loop-worker g l = record {
  left : All (IsWorkerOver l._shared) l.workers.items;
  seats : All (WorkerHasEnded (identity_of l._shared.table)) l.seats.items;
  many : length l.seats.items + length l.workers.items ≡ length l.fn.workers.items;
  idle : All (IsIdleSeatOf l._shared.shelf) l.shelf_seats.items;
  whole : total_over parts l.shelf_seats.items + total_over parts_of l.workers.items
      ≡ total_over parts_of l.fn.workers.items;
  seats_room : length l.seats.items + length l.workers.items ≤ vec_capacity l.seats;
  shelf_room : length l.shelf_seats.items + length l.workers.items ≤ vec_capacity l.shelf_seats;
}

abbrev pub decreases-loop-worker : goal.decreases-loop-worker
decreases-loop-worker g l = length l.workers.items
