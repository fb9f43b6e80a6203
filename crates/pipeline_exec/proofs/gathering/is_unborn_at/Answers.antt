use Rattle.pipeline_exec.proofs.Imports.{◌≢◌}
use Rattle.exec_laws.specs.declared.edges.NodeStatus.TheVariants.{Unborn}
use Rattle.pipeline_exec.proofs.CellChanges.{read-at}
use Rattle.pipeline_exec.proofs.gathering.is_unborn_at.Goals as goal

pub returns : goal.returns
returns g c = λ off. read-at c.args.cells.now.items c.args.n c.index.result.now c.requires
    c.index.ensures (λ d. d.cell.mark.state ≢ Unborn) (c.is_unborn.ensures off)
