use Rattle.std.proofs.Common.{◌≡◌, []}
use Rattle.task_queue.specs.Shelves.{held, parts}
use Rattle.exec_tests.proofs.task_queue_tests.visit_often.Given as goal

abbrev pub invariant-loop : goal.invariant-loop
invariant-loop g l = record {
  table : l.seat.seat.table_id ≡ l.shelf.table.shared.table_id;
  none : held l.seat ≡ [];
  same : parts l.seat ≡ parts l.initial.seat;
}
