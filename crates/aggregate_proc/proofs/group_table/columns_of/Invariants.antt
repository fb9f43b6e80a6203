use Rattle.aggregate_proc.proofs.Imports.{FoldColumn, column_type, map, values, ◌≡◌}
use Rattle.aggregate_proc.proofs.group_table.columns_of.Given as goal

abbrev pub invariant-loop-column : goal.invariant-loop-column
invariant-loop-column l =
    (map column_type l.made.items ≡ map (λ (c : FoldColumn). c.kind) l.yielded)
    × (map values l.made.items ≡ map (λ (c : FoldColumn). c.values) l.yielded)
