use Rattle.node_cells.proofs.Imports.{arith}
use Rattle.node_cells.proofs.WorkLaws.{at-work-home}
use Rattle.node_cells.proofs.node_run.follow.Goals as goal

pub returns-in-ExpandPipeline-clause-ok : goal.returns-in-ExpandPipeline-clause-ok
returns-in-ExpandPipeline-clause-ok g c = grind (arith, at-work-home)
