use Rattle.pipeline_exec.specs.WorkerRuns.{HaveHadMemory}
use Rattle.pipeline_exec.proofs.worker_run.is_any_short.Given as goal

abbrev pub invariant-loop-n : goal.invariant-loop-n
invariant-loop-n g l = HaveHadMemory l.n l.cells.items
