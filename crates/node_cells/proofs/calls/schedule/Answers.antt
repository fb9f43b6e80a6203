use Rattle.node_cells.proofs.Imports.{arith}
use Rattle.node_cells.proofs.WorkLaws.{wake_keeps_turn}
use Rattle.node_cells.proofs.calls.schedule.Goals as goal

pub returns-in-Ok-clause-ok : goal.returns-in-Ok-clause-ok
returns-in-Ok-clause-ok g c = grind (arith, wake_keeps_turn)
