use Rattle.aggregate_proc.proofs.Imports.{call_types, drop, ◌++◌, ◌≡◌}
use Rattle.aggregate_proc.proofs.group_builder.input_types.Given as goal

abbrev pub invariant-loop-call : goal.invariant-loop-call
invariant-loop-call l =
    l.types.items ++ call_types l.merges (drop l.call-index l.group.calls)
    ≡ l.group.keys ++ call_types l.merges l.group.calls
