use Rattle.aggregate_proc.proofs.Imports.{empty_column, key_foldings, map, ◌≡◌}
use Rattle.aggregate_proc.proofs.group_builder.key_columns.Given as goal

abbrev pub invariant-loop-c : goal.invariant-loop-c
invariant-loop-c l = l.columns.items ≡ map empty_column (key_foldings l.types l.c)
