use Rattle.exec_tests.specs.NamedCells.{two_names}
use Rattle.exec_tests.proofs.task_queue_tests.named_cells.work_boxes.Given as goal

abbrev pub ghosts-work_named : goal.ghosts-work_named
ghosts-work_named g a = record {
  table = a.a.1.table_id;
  named = two_names (g.P.Worker.seen a.a.0) (g.P.Worker.seen a.b.0);
}
