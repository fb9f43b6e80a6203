use Rattle.std.proofs.Common.{arith}
use Rattle.csv_rows.proofs.FieldPlaces.{plain_upto}
use Rattle.csv_rows.proofs.field_ends.plain_end.Goals as goal

pub returns : goal.returns
returns c = search (arith, plain_upto)
