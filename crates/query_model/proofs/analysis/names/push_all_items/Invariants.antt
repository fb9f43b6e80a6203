use Rattle.query_model.proofs.Imports.{ItemTree, flat_map, item_columns, item_tree, map, take, ◌++◌, ◌≡◌}
use Rattle.query_model.proofs.analysis.names.push_all_items.Given as goal

abbrev pub invariant-loop-item : goal.invariant-loop-item
invariant-loop-item l = l.names.items
    ≡ l.fn.names.items
    ++ flat_map (λ (i : ItemTree). item_columns i.what)
    (map item_tree (take l.item-index l.items))
