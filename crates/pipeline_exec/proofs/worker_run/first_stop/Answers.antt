use Rattle.pipeline_exec.proofs.Imports.{arith, length, ◌<◌}
use Rattle.node_ends.proofs.Lists.{each-more}
use Rattle.pipeline_exec.proofs.CellChanges.{stopped-at}
use Rattle.pipeline_exec.specs.WorkerRuns.{IsUnstopped}
use Rattle.pipeline_exec.proofs.worker_run.first_stop.Goals as goal

pub returns-in-Some-clause-found : goal.returns-in-Some-clause-found
returns-in-Some-clause-found g c =
    let lt : c.loop-n.n < length c.args.cells.now.items = omega arith in
    stopped-at c.args.cells.now.items c.loop-n.n c.index.result.now lt c.index.ensures
    c.in-Some.cause c.in-Some.is

pub loop-n-preserved : goal.loop-n-preserved
loop-n-preserved g c =
    let lt : c.loop-n.n < length c.args.cells.now.items = omega arith in
    each-more IsUnstopped c.args.cells.now.items c.loop-n.n c.index.result.now c.loop-n.invariant
    lt c.index.ensures c.in-None.is
