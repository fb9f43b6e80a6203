use Rattle.query_model.proofs.Imports.{filter, is_call_item, item_tree, length, map, take, ◌≡◌}
use Rattle.query_model.proofs.analysis.groups.count_item_calls.Given as goal

abbrev pub invariant-loop-item : goal.invariant-loop-item
invariant-loop-item l =
    l.count ≡ length (filter is_call_item (map item_tree (take l.item-index l.items)))
