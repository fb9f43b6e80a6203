use Rattle.node_cells.proofs.EndLaws.{end-law}
use Rattle.node_cells.proofs.SettledLaws.{settled-law}
use Rattle.node_cells.proofs.settled_cells.law_of_settled_cells.Goals as goal

pub returns-clause-running : goal.returns-clause-running
returns-clause-running c = settled-law

pub returns-clause-ends : goal.returns-clause-ends
returns-clause-ends c = end-law
