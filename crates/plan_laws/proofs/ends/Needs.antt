-- How many boxes a query needs, by its tables and by which clauses it has.
use Rattle.plan_laws.proofs.Imports.{Bool, List, [], arith, cond, false, is_some, sum_by, true, ℕ, ◌+◌, ◌∷◌, ◌≡◌, Checked, Grouped, Kind, PartsDecl, Plain, Shape, TableDecl, TableUse, list_sources_need, query_boxes, part_sources_need, table_need, used_tables}
use Rattle.query_model.specs.declared.processor_spec.Kind.TheVariants as kind

-- whether there are any
abbrev pub are_some : {A : Type 0} → List A → Bool
are_some [] = false
are_some (x ∷ xs) = true

-- whether there is a second one
abbrev pub are_two : {A : Type 0} → List A → Bool
are_two [] = false
are_two (x ∷ xs) = are_some xs

-- whether there are groups
abbrev pub are_grouped : Shape → Bool
are_grouped (Plain items) = false
are_grouped (Grouped g) = true

-- whether there are groups that HAVING tests
abbrev pub are_tested : Shape → Bool
are_tested (Plain items) = false
are_tested (Grouped g) = is_some g.having

-- what the used tables need together
abbrev pub uses_need : (PartsDecl → ℕ) → ℕ → List TableDecl → List TableUse → ℕ
uses_need f n tables us = sum_by (table_need f n tables) us

-- How many boxes of a kind a query needs that uses these tables, with a second table where some are
-- joined.
abbrev pub clause_need : List TableDecl → (lanes : ℕ) → List TableUse
    → (joined filtered grouped tested ordered limited : Bool) → Kind → ℕ
clause_need tables n us j f g h o l kind.Csv = uses_need part_sources_need 0 tables us
clause_need tables n us j f g h o l kind.List = uses_need list_sources_need 0 tables us
clause_need tables n us j f g h o l kind.Numbers = uses_need (λ decl. 0) 1 tables us
clause_need tables n us j f g h o l kind.Filter = cond f n 0 + cond h 1 0
clause_need tables n us j f g h o l kind.Expression = n + cond g 1 0
clause_need tables n us j f g h o l kind.Resize = cond j 3 1 + cond g 0 (cond o 0 1)
clause_need tables n us j f g h o l kind.PartialAggregate = cond g n 0
clause_need tables n us j f g h o l kind.MergeAggregate = cond g 1 0
clause_need tables n us j f g h o l kind.HashJoin = cond j 1 0
clause_need tables n us j f g h o l kind.Sort = cond o (cond g 1 n) 0
clause_need tables n us j f g h o l kind.MergeSorted = cond o (cond g 0 1) 0
clause_need tables n us j f g h o l kind.Limit = cond l 1 0
clause_need tables n us j f g h o l kind.Collect = 1

pub need_by_clauses : (tables : List TableDecl) (lanes : ℕ) (q : Checked) (k : Kind)
    → query_boxes q tables lanes k
    ≡ clause_need tables lanes (used_tables q) (are_two (used_tables q)) (is_some q.filter)
    (are_grouped q.shape) (are_tested q.shape) (are_some q.order) (is_some q.limit) k
need_by_clauses tables lanes q k = grind arith
