use Rattle.chunk_data.proofs.Imports.{column_type, map, take, ◌≡◌}
use Rattle.chunk_data.proofs.column_list.kinds_of.Given as goal

abbrev pub invariant-loop-column : goal.invariant-loop-column
invariant-loop-column l = l.kinds.items ≡ map column_type (take l.column-index l.columns)
