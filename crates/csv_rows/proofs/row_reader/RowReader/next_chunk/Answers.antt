use Rattle.csv_rows.proofs.Imports.{arith, AreColumns-empty}
use Rattle.csv_rows.proofs.row_reader.RowReader.next_chunk.Goals as goal

pub read_front-requires-clause-empty : goal.read_front-requires-clause-empty
read_front-requires-clause-empty c = search (arith, AreColumns-empty)
