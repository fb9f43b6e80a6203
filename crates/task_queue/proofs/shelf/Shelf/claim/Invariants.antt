use Rattle.task_queue.proofs.Imports.{◌≡◌}
use Rattle.task_queue.proofs.shelf.Shelf.claim.Given as goal

abbrev pub invariant-loop : goal.invariant-loop
invariant-loop g l = (l.seat.table_id ≡ l.initial.seat.table_id) × (l.seat.me ≡ l.initial.seat.me)
