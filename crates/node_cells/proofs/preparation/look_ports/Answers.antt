use Rattle.node_cells.proofs.Imports.{arith}
use Rattle.node_cells.proofs.TurnLaws.{looked-due}
use Rattle.node_cells.proofs.preparation.look_ports.Goals as goal

pub returns-clause-due : goal.returns-clause-due
returns-clause-due g c = search (arith, looked-due)
