use Rattle.pipeline_exec.specs.WorkerRuns.{AreUnstopped}
use Rattle.pipeline_exec.proofs.worker_run.first_stop.Given as goal

abbrev pub invariant-loop-n : goal.invariant-loop-n
invariant-loop-n g l = AreUnstopped l.n l.cells.items
