-- Laws of parts and of joins.
use Rattle.query_model.proofs.Imports.{IsPermutation, IsPermutation-append, IsPermutation-map, IsPermutation-refl, IsPermutation-trans, KeyPair, List, Row, [], agree, filter, joined_rows, map, ◌++◌, ◌∷◌}
use Rattle.query_model.proofs.Lists.{IsPermutation-filter, IsPermutation-flat_map}

-- a join with the rows of the second table in another order
pub IsPermutation-joined_rows : (pairs : List KeyPair) (ls ms rs ss : List Row) → IsPermutation ls
    ms → IsPermutation rs ss → IsPermutation (joined_rows pairs ls rs) (joined_rows pairs ms ss)
IsPermutation-joined_rows pairs ls ms rs ss h k =
    IsPermutation-trans _ _ _ (IsPermutation-flat_map
    (λ l. map (λ r. l ++ r) (filter (agree pairs l) rs)) ls ms h) (each ms)
  where
    each : (xs : List Row) → IsPermutation (joined_rows pairs xs rs) (joined_rows pairs xs ss)
    each [] = IsPermutation-refl []
    each (x ∷ xs) = IsPermutation-append _ _ _ _ (IsPermutation-map (λ r. x ++ r) _ _
        (IsPermutation-filter (agree pairs x) rs ss k)) (each xs)
