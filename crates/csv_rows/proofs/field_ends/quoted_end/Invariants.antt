use Rattle.csv_rows.proofs.Imports.{◌-◌, length}
use Rattle.csv_rows.proofs.FieldPlaces.{QuotedSoFar}
use Rattle.csv_rows.proofs.field_ends.quoted_end.Given as goal

abbrev pub invariant-runs : goal.invariant-runs
invariant-runs l = QuotedSoFar l.bytes l.at l.field.items l.i

abbrev pub decreases-runs : goal.decreases-runs
decreases-runs l = length l.bytes - l.i
