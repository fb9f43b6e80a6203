use Rattle.query_model.proofs.Imports.{map, sort_key, take, ◌≡◌}
use Rattle.query_model.proofs.analysis.ordering.place_order.Given as goal

abbrev pub invariant-loop-key : goal.invariant-loop-key
invariant-loop-key l = l.keys.items ≡ map (sort_key l.names) (take l.key-index l.order)
