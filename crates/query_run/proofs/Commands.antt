-- The query that was read of a command and checked, and the plan that it has.
use Rattle.query_run.proofs.Imports.{Bool, BothOrNone, Checked, Command, FromColumn, IsChecked, IsCheckedCommand, IsReadFrom, IsShape, IsTypedQuery, IsTypedSelect, IsWithinLimits, Kind, List, NamesFewPaths, None, Option, Query, Schema, Shape, analysable_of_read, ap, are_grouped, are_some, are_tested, arith, from_types, is_grouped, is_some, need_by_clauses, one_tree, option_map, query_boxes, query_tree, refusal_of, schemas_of, stock_of, subst, tables_used, typed-select, used_tables, ◌≡◌, ◌≤◌}

-- ---- what was read and checked

-- A query that was read from the command's text and analysed against its schemas is the command's.
pub checked_command : (command : Command) (q : Query) → IsReadFrom q command.query
    → (schemas : List Schema) → schemas ≡ schemas_of command → (checked : Checked)
    → refusal_of q schemas ≡ None → IsChecked q schemas checked
    → IsTypedQuery (from_types q schemas) checked → IsCheckedCommand command checked
checked_command command q read schemas are checked accepted is typed = record {
  accepted = record { query = q; read = read; accepted = rw are at accepted };
  is = rw are at is;
  typed = subst (λ s. IsTypedQuery (from_types q s) checked) are typed;
}

-- two queries that are read from one text use the same tables
pub same_tables : (command : Command) (p q : Query) → IsReadFrom p command.query
    → IsReadFrom q command.query → tables_used p command ≡ tables_used q command
same_tables command p q a b = grind (arith, one_tree command.query p q a.spells b.spells)

-- ---- the plan

-- a checked command's query is typed by the columns of its tables
pub typed_by_tables : (command : Command) (checked : Checked) → IsCheckedCommand command checked
    → IsTypedSelect command.tables checked
typed_by_tables command checked h = search (arith, typed-select, analysable_of_read)

-- ---- what it needs

some_mapped : {A B : Type 0} (f : A → B) (o : Option A) → is_some (option_map f o) ≡ is_some o
some_mapped f o = grind arith

some_both : {A B : Type 0} (R : A → B → Type 0) (a : Option A) (b : Option B) → BothOrNone R a b
    → is_some a ≡ is_some b
some_both R a b h = grind arith

-- the checked query is grouped, and its groups are tested, where the query says so
groups_are : (q : Query) (columns : List FromColumn) (b : Bool) → is_grouped (query_tree q) ≡ b
    → (s : Shape) → IsShape q columns b s
    → (are_grouped s ≡ is_grouped (query_tree q)) × (are_tested s ≡ is_some q.having)
groups_are q columns b e s is = grind (arith, some_both)

-- so it is of a command, and it has keys where the query has
clauses_are : (command : Command) (q : Checked) (h : IsCheckedCommand command q)
    → (are_grouped q.shape ≡ is_grouped (query_tree h.accepted.query))
    × (are_tested q.shape ≡ is_some h.accepted.query.having)
    × (are_some q.order ≡ are_some h.accepted.query.order)
clauses_are command q h = grind (arith, groups_are)

module _ (command : Command) (p q : Checked) (a : IsCheckedCommand command p)
    (b : IsCheckedCommand command q) where
  -- both of a command's checked queries use the same tables
  pub same_uses : used_tables p ≡ used_tables q
  same_uses = grind (arith, same_tables)

  -- and need the same boxes
  pub same_need : (k : Kind) → query_boxes p command.tables command.threads k
      ≡ query_boxes q command.tables command.threads k
  same_need k =
      let trees = one_tree command.query _ _ a.accepted.read.spells b.accepted.read.spells in
      let of_p = clauses_are command p a in
      let of_q = clauses_are command q b in
      let need_p = need_by_clauses command.tables command.threads p k in
      let need_q = need_by_clauses command.tables command.threads q k in
      let grouped = ap is_grouped trees in
      grind (arith, trees, some_mapped, some_both, of_p, of_q, need_p, need_q, grouped, same_uses)

-- the stock is enough for every plan within the limit of paths
pub stock_serves : (command : Command) (q : Checked) → IsWithinLimits command
    → IsCheckedCommand command q → NamesFewPaths command q → (k : Kind)
    → query_boxes q command.tables command.threads k ≤ stock_of k
stock_serves command q within h few k = search (arith, need_by_clauses)
