use Rattle.csv_rows.proofs.Imports.{◌≡◌, ℕ, records_at}
use Rattle.csv_rows.proofs.field_ends.skip_ends.Given as goal

abbrev pub invariant-loop-i : goal.invariant-loop-i
invariant-loop-i l = (left : ℕ) → records_at left l.bytes l.at ≡ records_at left l.bytes l.i
