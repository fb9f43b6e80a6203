use Rattle.query_run.proofs.Imports.{take, ◌≡◌}
use Rattle.query_run.proofs.checking.columns_copy.Given as goal

abbrev pub invariant-loop-column : goal.invariant-loop-column
invariant-loop-column l = l.copies.items ≡ take l.column-index l.columns
