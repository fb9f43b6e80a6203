use Rattle.expr_eval.proofs.Imports.{column_type, map, take, type_of, value_of, values, ◌≡◌}
use Rattle.expr_eval.proofs.items.eval_items.Given as goal

abbrev pub invariant-loop-item : goal.invariant-loop-item
invariant-loop-item l =
    (map column_type l.columns.items
    ≡ map (λ e. type_of e l.chunk.types) (take l.item-index l.items))
    × (map values l.columns.items
    ≡ map (λ e. map (value_of e) l.chunk.rows) (take l.item-index l.items))
