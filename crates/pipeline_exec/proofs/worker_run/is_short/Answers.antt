use Rattle.pipeline_exec.proofs.CellChanges.{read-at}
use Rattle.pipeline_exec.specs.WorkerRuns.{HadMemory}
use Rattle.pipeline_exec.proofs.worker_run.is_short.Goals as goal

pub returns : goal.returns
returns g c = λ off. read-at c.args.cells.now.items c.args.n c.index.result.now c.requires
    c.index.ensures HadMemory (c.is_memory.ensures off)
