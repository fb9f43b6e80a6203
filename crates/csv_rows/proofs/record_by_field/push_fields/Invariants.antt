use Rattle.csv_rows.proofs.Pushing.{RowSoFar}
use Rattle.csv_rows.proofs.record_by_field.push_fields.Given as goal

abbrev pub invariant-loop-i : goal.invariant-loop-i
invariant-loop-i l = RowSoFar l.bytes l.at l.place l.initial.columns l.columns l.i
