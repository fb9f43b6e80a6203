use Rattle.node_cells.proofs.Imports.{arith}
use Rattle.node_cells.proofs.StayLaws.{keeps-stays, stay-both, turned-stays}
use Rattle.node_cells.proofs.TurnLaws.{cell-prepared}
use Rattle.node_cells.proofs.preparation.prepare.Goals as goal

pub returns-clause-prepared : goal.returns-clause-prepared
returns-clause-prepared g c = search (arith, cell-prepared)

pub returns-clause-stays : goal.returns-clause-stays
returns-clause-stays g c = grind (arith, stay-both, keeps-stays, turned-stays)
