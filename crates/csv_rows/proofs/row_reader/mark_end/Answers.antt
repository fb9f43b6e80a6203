use Rattle.csv_rows.proofs.Imports.{sym, strip-short}
use Rattle.csv_rows.proofs.PartPlaces.{bom_is}
use Rattle.csv_rows.proofs.row_reader.mark_end.Goals as goal

pub returns-then-bytes-lt3-clause-rest : goal.returns-then-bytes-lt3-clause-rest
returns-then-bytes-lt3-clause-rest c = sym (strip-short c.args.bytes.now c.if-bytes-lt3.true)

pub returns-then-bytes-clause-rest : goal.returns-then-bytes-clause-rest
returns-then-bytes-clause-rest c =
    bom_is c.args.bytes.now _ c.if-bytes-lt3.false (c.if-bytes.true)

pub returns-else-bytes-clause-rest : goal.returns-else-bytes-clause-rest
returns-else-bytes-clause-rest c =
    bom_is c.args.bytes.now _ c.if-bytes-lt3.false (c.if-bytes.false)
