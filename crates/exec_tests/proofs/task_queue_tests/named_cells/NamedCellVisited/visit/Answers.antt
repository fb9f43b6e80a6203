use Rattle.exec_tests.proofs.Fitting.{cell_fits-later}
use Rattle.exec_tests.proofs.task_queue_tests.named_cells.NamedCellVisited.visit.Goals as goal

pub returns : goal.returns
returns g c = λ n fit. cell_fits-later _ _ _ _ n _ _ fit c.work.ensures
