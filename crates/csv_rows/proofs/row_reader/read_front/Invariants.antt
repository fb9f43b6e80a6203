use Rattle.csv_rows.proofs.Imports.{◌-◌}
use Rattle.csv_rows.proofs.Pushing.{ReadSoFar}
use Rattle.csv_rows.proofs.row_reader.read_front.Given as goal

abbrev pub invariant-rows : goal.invariant-rows
invariant-rows l = ReadSoFar l.initial.columns l.columns l.initial.reader l.reader l.rows l.most

abbrev pub decreases-rows : goal.decreases-rows
decreases-rows l = l.most - l.rows
