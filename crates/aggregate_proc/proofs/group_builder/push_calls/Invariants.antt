use Rattle.aggregate_proc.proofs.Imports.{call_foldings, drop, empty_column, map, ◌++◌, ◌≡◌}
use Rattle.aggregate_proc.proofs.group_builder.push_calls.Given as goal

abbrev pub invariant-loop-i : goal.invariant-loop-i
invariant-loop-i l =
    l.columns.items ++ map empty_column (call_foldings l.merges l.c (drop l.i l.calls))
    ≡ l.initial.columns.items ++ map empty_column (call_foldings l.merges l.first l.calls)
