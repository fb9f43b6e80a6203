use Rattle.csv_rows.proofs.Imports.{arith}
use Rattle.csv_rows.proofs.PartPlaces.{part_headed}
use Rattle.csv_rows.proofs.row_reader.first_place.Goals as goal

pub returns : goal.returns
returns c = rw c.if-not-header.false (part_headed c.mark_end-mark.ensures.within
    c.mark_end-mark.ensures.rest c.skip_ends-at.ensures (omega (arith, c.if-at-bytes.false))
    c.in_ok-end.ensures c.in_ok-next.ensures)
