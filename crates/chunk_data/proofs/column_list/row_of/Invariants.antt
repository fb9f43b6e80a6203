use Rattle.chunk_data.proofs.Imports.{map, take, value_at, values, ◌≡◌}
use Rattle.chunk_data.proofs.column_list.row_of.Given as goal

abbrev pub invariant-loop-column : goal.invariant-loop-column
invariant-loop-column l =
    l.row.items ≡ map (λ column. value_at column l.i) (map values (take l.column-index l.columns))
