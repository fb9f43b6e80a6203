use Rattle.chunk_data.proofs.Imports.{◌++◌, ◌≡◌}
use Rattle.chunk_data.proofs.column_list.beside_all.Given as goal

abbrev pub invariant-loop-column : goal.invariant-loop-column
invariant-loop-column l = l.columns.items ≡ l.initial.columns.items ++ l.yielded
