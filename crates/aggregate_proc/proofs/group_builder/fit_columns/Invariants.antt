use Rattle.aggregate_proc.proofs.Imports.{FitsColumn, FoldColumn, get_or, ℕ, ◌<◌}
use Rattle.aggregate_proc.proofs.group_builder.fit_columns.Given as goal

abbrev pub invariant-loop-i : goal.invariant-loop-i
invariant-loop-i l = (k : ℕ) (d : FoldColumn) → k < l.i → FitsColumn l.types (get_or l.columns k d)
