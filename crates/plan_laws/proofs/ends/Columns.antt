-- The columns of a table that a query names are those of the table that its plan reads, and its
-- checked types are those of the rows that its items make.
use Rattle.plan_laws.proofs.Imports.{Bool, IfSome, List, None, Option, Some, [], ap, arith, bytes_eq, cond, false, filter, flat_map, length, map, not, refl, slice_index_or, subst, suc, true, ℕ, ◌+◌, ◌<◌, ◌==◌, ◌∷◌, ◌≡◌, All, All-cons, All-head, All-nil, All-tail, AreColumnsFrom, AreKeyPairs, BothOrNone, Checked, CheckedJoin, ColumnDecl, ColumnRef, ColumnType, EachWith, Expr, FromColumn, IsAnalysable, IsChecked, IsCheckedJoin, IsKeyPair, IsOfKind, IsTypedQuery, Item, Join, NamePair, OrderKey, Query, Schema, SortKey, TableDecl, TableRef, TableUse, unrefused_is_accepted, append-nil, column_is_of_kind, from_columns, from_types, is_join_pair, join_spec, join_tables, length-map, list_all, map-append, means, meant_type, none_found, output_names, length-item_names, query_tree, selection, pair_of, place_of, refusal_of, same_plain-is, sort_key, source_types, table_columns, type_of, types_of, use_of, used_types, join_columns, pairs_fit, and_parts, shape_types, ArePicks, item_calls, plain_type, sym, ◌∙◌, ◌||◌, joins, same_known_type}
use Rattle.chunk_data.specs.declared.typed_value.ColumnType.TheVariants as column
use Rattle.query_model.specs.declared.query.ExprOf.TheVariants as expr
use Rattle.query_model.specs.declared.query.Refusal.TheVariants as refuse
use Rattle.query_model.specs.declared.query.TableRef.TheVariants as table

types_kept : (table : List ℕ) (cs : List ColumnDecl)
    → map (λ (c : FromColumn). c.type)
    (map (λ (c : ColumnDecl). record { table = table; name = c.name; type = c.kind }) cs)
    ≡ map (λ (c : ColumnDecl). c.kind) cs
types_kept table [] = refl
types_kept table (c ∷ cs) = ap (λ ts. c.kind ∷ ts) (types_kept table cs)

-- the columns of a table that a query names have the types of the table that it uses
pub types_of_table : (tables : List TableDecl) (t : TableRef)
    → map (λ (c : FromColumn). c.type)
    (table_columns (map (λ (d : TableDecl). d.schema) tables) t)
    ≡ used_types tables (use_of (map (λ (d : TableDecl). d.schema) tables) t)
types_of_table (d ∷ ds) (table.Named t) =
    grind (arith, types_kept, types_of_table ds (table.Named t))
types_of_table tables t = grind arith

-- ---- as many output columns as names

columns-counted : (k : ℕ) (columns : List FromColumn) (es : List Expr) → AreColumnsFrom k columns es
    → length columns ≡ length es
columns-counted k (c ∷ columns) (expr.Column n ∷ es) h =
    ap suc (columns-counted (k + 1) columns es h.1)
columns-counted k columns es h = grind arith

items-counted : (P : Item → Expr → Type 0) (items : List Item) (es : List Expr)
    → EachWith P items es → length items ≡ length es
items-counted P (i ∷ items) (e ∷ es) h = ap suc (items-counted P items es h.1)
items-counted P items es h = grind arith

picks-counted : (place : ColumnRef → ℕ) (k : ℕ) (items : List Item) (picks : List ℕ)
    → ArePicks place k items picks → length items ≡ length picks
picks-counted place k (i ∷ items) (p ∷ picks) h =
    ap suc (picks-counted place (k + length (item_calls i.what)) items picks h.1)
picks-counted place k items picks h = grind arith

-- a test that one passes has a place
place-within : {A : Type 0} (test : A → Bool) (xs : List A) → 0 < length (filter test xs)
    → place_of test xs < length xs
place-within test [] some = absurd (omega (arith, some))
place-within test (x ∷ xs) some = grind (arith, place-within test xs)

one-passes : (n : ℕ) → not (n == 1) ≡ false → 0 < n
one-passes n h = grind arith

-- ---- the pairs of a join

-- a column that a name means has a place and a type
meant-at : (columns : List FromColumn) (c : ColumnRef) (t : ColumnType)
    → meant_type columns c ≡ Some t
    → (place_of (means c) columns < length (types_of columns))
    × (slice_index_or (types_of columns) (place_of (means c) columns) column.Text ≡ t)
unfolding type_of
meant-at columns c t e = grind (arith, IsOfKind, column_is_of_kind c columns)

-- a pair fits, whichever way it is written
-- columns that join have places, and types that are one apart from Nullable
columns-join : (left right : List FromColumn) (a b : ColumnRef) (s t : Option ColumnType)
    → meant_type left a ≡ s → meant_type right b ≡ t → same_known_type s t ≡ true
    → IsKeyPair (types_of left) (types_of right)
    (record { left = place_of (means a) left; right = place_of (means b) right })
columns-join left right a b (Some s) (Some t) d e h =
    let l = meant-at left a s d in
    let r = meant-at right b t e in (
      l.0,
      r.0,
      ap plain_type l.1 ∙ same_plain-is (plain_type s) (plain_type t) h
          ∙ sym (ap plain_type r.1),
    )
columns-join left right a b s t d e h = absurd (cc)

-- a pair fits, whichever way it is written
pair-is : (left right : List FromColumn) (p : NamePair) → is_join_pair left right p ≡ true
    → IsKeyPair (types_of left) (types_of right) (pair_of left right p)
pair-is left right p h =
    go (joins left right p.left p.right)
    (columns-join left right p.left p.right (meant_type left p.left) (meant_type right p.right)
    refl refl) h
  where
    go : (b : Bool) → (b ≡ true → IsKeyPair (types_of left) (types_of right)
        (record { left = place_of (means p.left) left; right = place_of (means p.right) right }))
        → (b || joins left right p.right p.left) ≡ true
        → IsKeyPair (types_of left) (types_of right) (cond b
        (record { left = place_of (means p.left) left; right = place_of (means p.right) right })
        (record { left = place_of (means p.right) left; right = place_of (means p.left) right }))
    go true f h = f refl
    go false f h =
        columns-join left right p.right p.left (meant_type left p.right) (meant_type right p.left)
        refl refl h

pairs-fit : (left right : List FromColumn) (pairs : List NamePair)
    → list_all (is_join_pair left right) pairs ≡ true
    → All (IsKeyPair (types_of left) (types_of right)) (map (pair_of left right) pairs)
pairs-fit left right [] e = search (arith, All-nil)
pairs-fit left right (p ∷ pairs) e =
    let each = and_parts (is_join_pair left right p) (list_all (is_join_pair left right) pairs) e in
    All-cons (IsKeyPair (types_of left) (types_of right)) (pair_of left right p)
    (map (pair_of left right) pairs) (pair-is left right p each.0)
    (pairs-fit left right pairs each.1)

-- A query that is typed by the types of the rows that it reads of these tables. The rows that its
-- shape makes have the columns of its keys. The pairs of a join have columns of either table.
pub record IsTypedSelect (tables : List TableDecl) (c : Checked) : Type 0 where
  pub typed : IsTypedQuery (source_types tables c.from c.join) c
  pub keys : All (λ (key : SortKey).
      key.column < length (shape_types c.shape (source_types tables c.from c.join))) c.order
  pub pairs : IfSome c.join (λ (j : CheckedJoin). AreKeyPairs (join_spec tables 0 c.from j))

-- the types that are read, and the pairs of a join, by the tables that a query names
record AreRead (q : Query) (schemas : List Schema) (tables : List TableDecl) (from : TableUse)
    (a : Option Join) (b : Option CheckedJoin) : Type 0 where
  pub types : types_of (flat_map (table_columns schemas) (q.from ∷ join_tables a))
      ≡ source_types tables from b
  pub pairs : pairs_fit (table_columns schemas q.from) (join_columns schemas a) a ≡ true
      → IfSome b (λ (j : CheckedJoin). AreKeyPairs (join_spec tables 0 from j))

read-types : (q : Query) (schemas : List Schema) (tables : List TableDecl)
    → schemas ≡ map (λ (d : TableDecl). d.schema) tables → (from : TableUse)
    → from ≡ use_of schemas q.from → (a : Option Join) (b : Option CheckedJoin)
    → BothOrNone (IsCheckedJoin q schemas) a b → AreRead q schemas tables from a b
read-types q schemas tables are from from_is a b both = go a b both
  where
    one : (t : TableRef) (u : TableUse) → u ≡ use_of schemas t
        → types_of (table_columns schemas t) ≡ used_types tables u
    one t u is = grind (arith, types_of_table tables t)

    go : (a : Option Join) (b : Option CheckedJoin) → BothOrNone (IsCheckedJoin q schemas) a b
        → AreRead q schemas tables from a b
    go None None h = search (arith, append-nil, one)
    go None (Some j) h = absurd h
    go (Some x) None h = absurd h
    go (Some x) (Some j) h = search (arith, one, append-nil, map-append, pairs-fit)

module _ (q : Query) (schemas : List Schema) (c : Checked) (none : refusal_of q schemas ≡ None)
    (is : IsChecked q schemas c) where
  abbrev columns : List FromColumn
  columns = from_columns (query_tree q) schemas

  abbrev names : List (List ℕ)
  names = output_names (selection q.items) columns

  abbrev made : List ColumnType
  made = shape_types c.shape (from_types q schemas)

  abbrev Within : SortKey → Type 0
  Within key = key.column < length made

  abbrev is_no_name : OrderKey → Bool
  is_no_name key = not (length (filter (bytes_eq key.name) names) == 1)

  -- the shape makes as many columns as the query has names
  as-many-names : length names ≡ length made
  as-many-names = search (
    arith,
    length-item_names,
    length-map,
    columns-counted,
    items-counted,
    unrefused_is_accepted,
    picks-counted,
  )

  keys-within : (keys : List OrderKey) → All (λ key. is_no_name key ≡ false) keys
      → All Within (map (sort_key names) keys)
  keys-within [] h = All-nil Within
  keys-within (key ∷ keys) h =
      let place = place-within (bytes_eq key.name) names
      (one-passes (length (filter (bytes_eq key.name) names))
      (All-head (λ key. is_no_name key ≡ false) key keys h)) in
      All-cons Within (sort_key names key) (map (sort_key names) keys)
      (omega (arith, place, as-many-names))
      (keys-within keys (All-tail (λ key. is_no_name key ≡ false) key keys h))

  pub typed-select : (tables : List TableDecl)
      → schemas ≡ map (λ (d : TableDecl). d.schema) tables → IsAnalysable q
      → IsTypedQuery (from_types q schemas) c → IsTypedSelect tables c
  typed-select tables are can query =
      let t = read-types q schemas tables are c.from is.from q.join c.join is.join in
      let ok = unrefused_is_accepted q schemas none in
      record {
        typed = subst (λ types. IsTypedQuery types c) t.types query;
        keys = rw is.order (rw t.types at (keys-within q.order (none_found is_no_name
            (λ (key : OrderKey). refuse.BadOrderKey key.name) q.order ok.ordered)));
        pairs = t.pairs (holds-if _ ok.pairs);
      }
    where
      holds-if : (b : Bool) → cond b None (Some refuse.BadJoinKey) ≡ None → b ≡ true
      holds-if true e = refl
      holds-if false e = absurd cc
