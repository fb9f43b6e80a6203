use Rattle.chunk_data.proofs.Imports.{column_type, map, take, value_at, values, ◌≡◌}
use Rattle.chunk_data.proofs.column_list.gather_all.Given as goal

abbrev pub invariant-loop-column : goal.invariant-loop-column
invariant-loop-column l =
    (map column_type l.gathered.items ≡ map column_type (take l.column-index l.columns))
    × (map values l.gathered.items ≡ map (λ column. map (value_at column) l.places)
    (map values (take l.column-index l.columns)))
