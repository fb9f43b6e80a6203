use Rattle.query_model.proofs.Imports.{declared_column, map, take, ◌++◌, ◌≡◌}
use Rattle.query_model.proofs.analysis.columns.push_columns.Given as goal

abbrev pub invariant-loop-column : goal.invariant-loop-column
invariant-loop-column l = l.columns.items ≡ l.initial.columns.items
    ++ map (declared_column l.schema.name) (take l.column-index l.column-items)
