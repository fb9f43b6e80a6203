use Rattle.select_planner.proofs.Imports.{ColumnDecl, map, take, ◌≡◌}
use Rattle.select_planner.proofs.parts.types_of.Given as goal

abbrev pub invariant-loop-column : goal.invariant-loop-column
invariant-loop-column l =
    l.types.items ≡ map (λ (c : ColumnDecl). c.kind) (take l.column-index l.columns)
