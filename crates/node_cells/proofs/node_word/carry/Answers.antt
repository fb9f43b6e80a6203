use Rattle.node_cells.proofs.Imports.{arith}
use Rattle.node_cells.proofs.TurnLaws.{carried-prepared}
use Rattle.node_cells.proofs.node_word.carry.Goals as goal

pub returns-clause-prepared : goal.returns-clause-prepared
returns-clause-prepared g c = search (arith, carried-prepared)

pub returns-clause-done : goal.returns-clause-done
returns-clause-done g c = grind (arith, carried-prepared)
