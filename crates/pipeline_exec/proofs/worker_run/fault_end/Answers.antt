use Rattle.pipeline_exec.proofs.Imports.{refl}
use Rattle.pipeline_exec.proofs.worker_run.fault_end.Goals as goal

pub returns-in_default : goal.returns-in_default
returns-in_default c = (refl, refl, c.in_default.not-Memory)
