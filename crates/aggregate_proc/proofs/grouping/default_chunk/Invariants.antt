use Rattle.aggregate_proc.proofs.Imports.{StateCall, [], column_type, default_value, map, take, values, ◌∷◌, ◌≡◌}
use Rattle.aggregate_proc.proofs.grouping.default_chunk.Given as goal

abbrev pub invariant-loop-call : goal.invariant-loop-call
invariant-loop-call l =
    (map column_type l.columns.items
    ≡ map (λ (c : StateCall). c.kind) (take l.call-index l.group.calls))
    × (map values l.columns.items
    ≡ map (λ (c : StateCall). default_value c.kind ∷ []) (take l.call-index l.group.calls))
