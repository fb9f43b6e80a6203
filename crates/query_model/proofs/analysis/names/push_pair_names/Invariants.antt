use Rattle.query_model.proofs.Imports.{NamePair, [], flat_map, take, ◌++◌, ◌∷◌, ◌≡◌}
use Rattle.query_model.proofs.analysis.names.push_pair_names.Given as goal

abbrev pub invariant-loop-pair : goal.invariant-loop-pair
invariant-loop-pair l = l.names.items ≡ l.fn.names.items
    ++ flat_map (λ (p : NamePair). p.left ∷ p.right ∷ []) (take l.pair-index l.pairs)
