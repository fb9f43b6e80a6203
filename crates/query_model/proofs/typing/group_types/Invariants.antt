use Rattle.query_model.proofs.Imports.{AggCall, call_type, map, take, type_at, ℕ, ◌++◌, ◌≡◌}
use Rattle.query_model.proofs.typing.group_types.Given as goal

abbrev pub invariant-loop-call : goal.invariant-loop-call
invariant-loop-call l =
    l.row.items ≡ map (type_at l.types) l.fn.grouping.keys
    ++ map (λ (call : AggCall ℕ). call_type call.op call.arg l.types) (take l.call-index l.calls)
