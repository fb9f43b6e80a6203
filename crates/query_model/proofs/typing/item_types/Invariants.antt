use Rattle.query_model.proofs.Imports.{map, take, type_of, ◌≡◌}
use Rattle.query_model.proofs.typing.item_types.Given as goal

abbrev pub invariant-loop-item : goal.invariant-loop-item
invariant-loop-item l =
    l.of_items.items ≡ map (λ e. type_of e l.types) (take l.item-index l.items)
