-- Cells after a run.
use Rattle.std.specs.Prelude.{All}
use Rattle.exec_laws.specs.Prelude.{BoxPicture}
use Rattle.exec_table.specs.Seats.{Identity, identity_of}
use Rattle.node_cells.specs.Visits.{LiesAs}
use Rattle.node_workers.specs.declared.named_cell.EndedCell.{EndedCell}
use Rattle.node_workers.specs.declared.run.Ended.{Ended}

-- the cell lies as its node's state or its cause says
abbrev pub Lies : {P : Type 0} → (P → BoxPicture) → Identity → EndedCell P → Type 0
Lies seen t d = LiesAs seen t d.stopped d.cell

abbrev pub AllLie : {P : Type 0} → (P → BoxPicture) → Ended P → Type 0
AllLie seen ended = All (Lies seen (identity_of ended.table)) ended.cells.items
