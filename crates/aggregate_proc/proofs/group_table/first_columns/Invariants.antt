use Rattle.aggregate_proc.proofs.Imports.{◌≡◌}
use Rattle.query_model.proofs.Imports.{count_up}
use Rattle.aggregate_proc.proofs.group_table.first_columns.Given as goal

abbrev pub invariant-loop-c : goal.invariant-loop-c
invariant-loop-c l = l.columns.items ≡ count_up l.c
