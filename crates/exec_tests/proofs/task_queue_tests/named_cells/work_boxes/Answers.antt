use Rattle.exec_tests.proofs.Fitting.{as_named-same}
use Rattle.exec_tests.proofs.task_queue_tests.named_cells.work_boxes.Goals as goal

pub work_named-requires-clause-boxes : goal.work_named-requires-clause-boxes
work_named-requires-clause-boxes g c = λ κs lives. (as_named-same _, as_named-same _)
