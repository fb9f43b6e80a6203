use Rattle.csv_rows.proofs.Imports.{column_type, values}
use Rattle.chunk_data.proofs.Imports.{[], map, take, ◌≡◌}
use Rattle.csv_rows.proofs.row_reader.roomy_columns.Given as goal

abbrev pub invariant-loop-kind : goal.invariant-loop-kind
invariant-loop-kind l =
    (map column_type l.columns.items ≡ take l.kind-index l.kinds)
    × (map values l.columns.items ≡ map (λ _. []) (take l.kind-index l.kinds))
