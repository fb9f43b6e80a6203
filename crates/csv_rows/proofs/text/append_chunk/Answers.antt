use Rattle.csv_rows.proofs.Imports.{}
use Rattle.query_model.proofs.Imports.{arith, length-FitsTypes}
use Rattle.csv_rows.proofs.text.append_chunk.Goals as goal

pub append_row-requires-clause-wide : goal.append_row-requires-clause-wide
append_row-requires-clause-wide c = search (arith, length-FitsTypes)
