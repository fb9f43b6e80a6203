use Rattle.query_model.proofs.Imports.{map, pair_of, take, ◌≡◌}
use Rattle.query_model.proofs.analysis.join_keys.place_pairs.Given as goal

abbrev pub invariant-loop-pair : goal.invariant-loop-pair
invariant-loop-pair l = l.placed.items ≡ map (pair_of l.left l.right) (take l.pair-index l.pairs)
