use Rattle.query_model.proofs.Imports.{FromColumn, map, take, ◌≡◌}
use Rattle.query_model.proofs.analysis.outputs.column_names.Given as goal

abbrev pub invariant-loop-column : goal.invariant-loop-column
invariant-loop-column l =
    l.names.items ≡ map (λ (c : FromColumn). c.name) (take l.column-index l.columns)
