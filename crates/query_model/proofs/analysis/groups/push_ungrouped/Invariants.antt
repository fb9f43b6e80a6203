use Rattle.query_model.proofs.Imports.{item_tree, map, take, ungrouped_in_items, ◌++◌, ◌≡◌}
use Rattle.query_model.proofs.analysis.groups.push_ungrouped.Given as goal

abbrev pub invariant-loop-item : goal.invariant-loop-item
invariant-loop-item l = l.names.items ≡ l.fn.names.items
    ++ ungrouped_in_items l.columns l.keys (map item_tree (take l.item-index l.items))
