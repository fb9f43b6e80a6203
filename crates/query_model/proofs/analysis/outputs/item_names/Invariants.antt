use Rattle.query_model.proofs.Imports.{item_names, item_tree, map, take, ◌≡◌}
use Rattle.query_model.proofs.analysis.outputs.item_names.Given as goal

abbrev pub invariant-loop-item : goal.invariant-loop-item
invariant-loop-item l = l.names.items ≡ item_names 1 (map item_tree (take l.item-index l.items))
