use Rattle.csv_rows.proofs.Imports.{arith, ◌∙◌, at_end}
use Rattle.csv_rows.proofs.PartPlaces.{over_is, over_none}
use Rattle.csv_rows.proofs.row_reader.RowReader.is_over.Goals as goal

pub returns-then-self-eq0 : goal.returns-then-self-eq0
returns-then-self-eq0 c = search (arith, over_none, at_end)

pub returns-else-self-eq0 : goal.returns-else-self-eq0
returns-else-self-eq0 c = search (arith, over_is, at_end)
