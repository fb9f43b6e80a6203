use Rattle.csv_rows.proofs.Imports.{◌-◌, length}
use Rattle.csv_rows.proofs.FieldPlaces.{MoreSoFar}
use Rattle.csv_rows.proofs.record_by_field.pass_fields.Given as goal

abbrev pub invariant-fields : goal.invariant-fields
invariant-fields l = MoreSoFar l.bytes l.at l.end l.more

abbrev pub decreases-fields : goal.decreases-fields
decreases-fields l = length l.bytes - l.end
