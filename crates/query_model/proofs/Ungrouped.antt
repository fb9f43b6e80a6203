-- The first name that may not stand in a grouped query.
use Rattle.query_model.proofs.Imports.{Bool, ColumnRef, FromColumn, List, Query, query_tree, [], arith, filter, find, first_name, first_ungrouped, map, option_map, refl, ungrouped_names, written, ◌∷◌, ◌≡◌}

first_that : (test : ColumnRef → Bool) (cs : List ColumnRef)
    → first_name (map written (filter test cs)) ≡ option_map written (find test cs)
first_that test [] = refl
first_that test (c ∷ cs) = search (arith, first_that test cs)

-- it is sought in the items, and then in HAVING
pub first_is : (columns : List FromColumn) (q : Query)
    → first_name (ungrouped_names columns (query_tree q)) ≡ first_ungrouped columns (query_tree q)
first_is columns q = search (arith, first_that)
