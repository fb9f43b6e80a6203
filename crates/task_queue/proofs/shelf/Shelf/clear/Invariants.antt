use Rattle.task_queue.proofs.Imports.{All, [], all_shares, held, length, parts, total_over, ◌+◌, ◌≡◌}
use Rattle.task_queue.proofs.shelf.Shelf.clear.Given as goal

abbrev pub invariant-loop-next : goal.invariant-loop-next
invariant-loop-next g l = record {
  table : l.seat.table_id ≡ l.table.shared.table_id;
  bare : l.seat.me.1 ≡ [];
  none : l.seat.me.0.held ≡ [];
  whole : l.seat.me.0.parts + total_over parts l.seats.items ≡ all_shares;
  idle : All (λ s. (s.seat.table_id ≡ l.table.shared.table_id) × (held s ≡ [])) l.seats.items;
}

abbrev pub decreases-loop-next : goal.decreases-loop-next
decreases-loop-next g l = length l.seats.items
