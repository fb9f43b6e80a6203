use Rattle.query_model.proofs.Imports.{take, types_of, ◌≡◌}
use Rattle.query_model.proofs.analysis.outputs.column_types.Given as goal

abbrev pub invariant-loop-column : goal.invariant-loop-column
invariant-loop-column l = l.types.items ≡ types_of (take l.column-index l.columns)
