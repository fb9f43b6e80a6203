-- What holds of a query that no condition refuses.
use Rattle.query_model.proofs.Imports.{Formula, All, All-cons, All-nil, AllByRecursion, ArithOp, Bool, CanBePicked, ColumnRef, FromColumn, HasNoCall, Item, ItemKind, ItemTree, Items, OperandTyping, List, None, Option, Query, Refusal, Schema, Some, [], ambiguous_column, and_parts, ap, arith, arith_typing, bad_join_key, bad_order_key, bare_columns, cond, expr_columns, expr_typing, false, filter, find, first_name, first_of_all, fits_where, flat_map, from_columns, is_call, is_grouped, is_key_of, is_typed, item_typing, length, length-append, list_all, list_any, listed, map, meant, nat_lt, not, not_grouped, not_keys, option_map, plain, refl, refusal_of, star_name, table_columns, text_columns, too_wide, true, type_mismatch, typed, ungrouped_names, unknown_column, written, ℕ, ◌++◌, ◌==◌, ◌∷◌, ◌≡◌, ◌≤◌, join_columns, list_all-map, Listed, Star, refusals, output_names, or_parts, item_tree, item_what, items_in, query_tree, selection, sides_in, is_call_item, ungrouped_in_items, QueryTree}
use Rattle.query_model.specs.Formulas as form
use Rattle.query_model.specs.Refusals.{tree_refusal}
use Rattle.query_model.specs.declared.query.ExprOf.TheVariants as expr
use Rattle.query_model.specs.declared.query.ItemKind.TheVariants as kind
use Rattle.query_model.specs.declared.query.Refusal.TheVariants as refuse

-- none of several stands
none_of_all : {X : Type 0} (os : List (Option X)) → first_of_all os ≡ None
    → AllByRecursion (λ o. o ≡ None) os
none_of_all [] h = tt
none_of_all (None ∷ os) h = (refl, none_of_all os h)
none_of_all (Some x ∷ os) h = absurd cc

-- none of the conditions stands
pub record IsWithoutRefusal (t : QueryTree) (schemas : List Schema) : Type 0 where
  pub known : unknown_column (from_columns t schemas) (text_columns t) ≡ None
  pub one : ambiguous_column (from_columns t schemas) (text_columns t) ≡ None
  pub pairs : bad_join_key (table_columns schemas t.from) (join_columns schemas t.join) t.join
      ≡ None
  pub typed : type_mismatch (from_columns t schemas) t ≡ None
  pub grouped : not_grouped (from_columns t schemas) t ≡ None
  pub ordered : bad_order_key (output_names t.items (from_columns t schemas)) t.order ≡ None
  pub narrow : too_wide (from_columns t schemas) t ≡ None

-- what is asked of the columns of From is what refuses the query
pub refusal_over : (q : Query) (schemas : List Schema) (columns left right : List FromColumn)
    → columns ≡ from_columns (query_tree q) schemas → left ≡ table_columns schemas q.from
    → right ≡ join_columns schemas q.join
    → first_of_all (refusals schemas columns left right (query_tree q)) ≡ refusal_of q schemas
unfolding refusal_of
refusal_over q schemas columns left right a b c = rw (a, b, c) refl

-- queries of one tree are refused alike
pub same_refusal : (p q : Query) → query_tree p ≡ query_tree q → (schemas : List Schema)
    → refusal_of p schemas ≡ refusal_of q schemas
unfolding refusal_of
same_refusal p q e schemas = ap (λ t. tree_refusal t schemas) e

pub unrefused_is_accepted : (q : Query) (schemas : List Schema) → refusal_of q schemas ≡ None
    → IsWithoutRefusal (query_tree q) schemas
unfolding refusal_of
unrefused_is_accepted q schemas h =
    let t = query_tree q in
    let all = none_of_all (refusals schemas (from_columns t schemas) (table_columns schemas t.from)
    (join_columns schemas t.join) t) h in
    let later = all.1.1.1 in
    record {
      known = all.1.0;
      one = all.1.1.0;
      pairs = later.0;
      typed = later.1.0;
      grouped = later.1.1.0;
      ordered = later.1.1.1.0;
      narrow = later.1.1.1.1.0;
    }

-- what no name passes
pub none_found : {A B : Type 0} (test : A → Bool) (f : A → B) (xs : List A)
    → option_map f (find test xs) ≡ None → All (λ x. test x ≡ false) xs
none_found test f [] h = All-nil (λ x. test x ≡ false)
none_found test f (x ∷ xs) h = search (arith, none_found test f xs)

-- Each name means one column.

pub knows_each : (t : QueryTree) (schemas : List Schema) → IsWithoutRefusal t schemas
    → All (λ c. (length (meant c (from_columns t schemas)) == 0) ≡ false) (text_columns t)
knows_each t schemas a = search (arith, none_found)

pub tells_each : (t : QueryTree) (schemas : List Schema) → IsWithoutRefusal t schemas
    → All (λ c. nat_lt 1 (length (meant c (from_columns t schemas))) ≡ false) (text_columns t)
tells_each t schemas a = search (arith, none_found)

-- Types.

unless : (b : Bool) (r : Refusal) → cond b None (Some r) ≡ None → b ≡ true
unless true r h = refl
unless false r h = absurd cc

pub record AllTypesFit (columns : List FromColumn) (t : QueryTree) : Type 0 where
  pub items : list_all (λ (i : ItemTree). is_typed (item_typing columns i.what)) (items_in t.items)
      ≡ true
  pub filter : fits_where columns t.filter ≡ true
  pub having : fits_where columns t.having ≡ true

pub all_fit : (t : QueryTree) (schemas : List Schema) → IsWithoutRefusal t schemas
    → AllTypesFit (from_columns t schemas) t
all_fit t schemas a = search (arith, and_parts, unless)

-- Widths.

at_most : (n : ℕ) → nat_lt 64 n ≡ false → n ≤ 64
at_most n k = grind arith

pub record IsNarrow (t : QueryTree) (schemas : List Schema) : Type 0 where
  pub width : length (from_columns t schemas) ≤ 64
  pub left : length (table_columns schemas t.from) ≤ 64
  pub right : length (join_columns schemas t.join) ≤ 64
  pub keys : length t.keys ≤ 64

pub narrow : (q : Query) (schemas : List Schema) → refusal_of q schemas ≡ None
    → IsNarrow (query_tree q) schemas
narrow q schemas none =
    let a = unrefused_is_accepted q schemas none in
    let e = length-append (table_columns schemas q.from)
    (join_columns schemas q.join) in
    let width : length (from_columns (query_tree q) schemas) ≤ 64 = search (arith, at_most) in
    record {
      width = width;
      left = omega (arith, e, width);
      right = omega (arith, e, width);
      keys =
          search (arith, at_most);
    }

-- Groups.

no_call : (k : ItemKind) → is_call (item_what k) ≡ false → HasNoCall k
no_call (kind.Plain e) h = tt
no_call (kind.Agg call) h = absurd cc

-- the trees of a selection are those of its items
pub listed_trees : (items : Items) → items_in (selection items) ≡ map item_tree (listed items)
listed_trees items = grind arith

-- one of them passes a test where the tree of an item does, and all pass where all trees do
pub any_listed : (p : ItemTree → Bool) (items : Items) → list_any p (items_in (selection items))
    ≡ list_any (λ (i : Item). p (item_tree i)) (listed items)
any_listed p Star = refl
any_listed p (Listed items) = go items
  where
    go : (is : List Item) → list_any p (map item_tree is)
        ≡ list_any (λ (i : Item). p (item_tree i)) is
    go [] = refl
    go (i ∷ is) = search (arith, go is)

pub all_listed : (p : ItemTree → Bool) (items : Items) → list_all p (items_in (selection items))
    ≡ list_all (λ (i : Item). p (item_tree i)) (listed items)
all_listed p items = search (arith, listed_trees items, list_all-map)

no_calls : (items : List Item) → list_any is_call_item (map item_tree items) ≡ false
    → All (λ (i : Item). HasNoCall i.what) items
no_calls [] h = All-nil (λ (i : Item). HasNoCall i.what)
no_calls (i ∷ items) h = search (arith, or_parts, no_call, no_calls items)

-- a query without groups has no call among its items
pub ungrouped_items : (q : Query) → is_grouped (query_tree q) ≡ false
    → All (λ (i : Item). HasNoCall i.what) (listed q.items)
ungrouped_items q h = search (arith, listed_trees q.items, no_calls, or_parts)

-- nothing is of a type that has no name of a column

none_twice : {A : Type 0} (xs ys : List A) → xs ++ ys ≡ [] → (xs ≡ []) × (ys ≡ [])
none_twice [] ys h = (refl, h)
none_twice (x ∷ xs) ys h = absurd cc

untyped_arith : (op : ArithOp) (x y : OperandTyping) → is_typed x ≡ false → is_typed y ≡ false
    → is_typed (arith_typing op x y) ≡ false
untyped_arith op (typed s) y h k = absurd cc
untyped_arith op (plain z) (typed t) h k = absurd cc
untyped_arith op x y h k = refl

no_name : (columns : List FromColumn) (e : Formula ColumnRef) → expr_columns e ≡ []
    → is_typed (expr_typing columns e) ≡ false
unfolding expr_columns expr_typing
no_name columns (form.column c) h = absurd cc
no_name columns (form.number n) h = refl
no_name columns (form.arith op a b) h =
    grind (arith, none_twice, untyped_arith, no_name columns a, no_name columns b)

can_be_picked : (columns : List FromColumn) (is_key : ColumnRef → Bool) (k : ItemKind)
    → not_keys is_key (item_what k) ≡ [] → is_typed (item_typing columns (item_what k)) ≡ true
    → CanBePicked is_key k
unfolding expr_typing
can_be_picked columns is_key (kind.Plain (expr.Column c)) h t = search (arith)
can_be_picked columns is_key (kind.Plain (expr.Number n)) h t = absurd cc
can_be_picked columns is_key (kind.Plain (expr.Arith' op p a q b)) h t =
    search (arith, none_twice, untyped_arith, no_name)
can_be_picked columns is_key (kind.Agg call) h t = tt

all_can_be_picked : (columns : List FromColumn) (is_key : ColumnRef → Bool) (items : List Item)
    → flat_map (λ (i : ItemTree). not_keys is_key i.what) (map item_tree items) ≡ []
    → list_all (λ (i : ItemTree). is_typed (item_typing columns i.what)) (map item_tree items)
    ≡ true
    → All (λ (i : Item). CanBePicked is_key i.what) items
all_can_be_picked columns is_key [] h t = All-nil (λ (i : Item). CanBePicked is_key i.what)
all_can_be_picked columns is_key (i ∷ items) h t =
    search (arith, none_twice, All-cons, can_be_picked, all_can_be_picked columns is_key items)

none_left : {A : Type 0} (test : A → Bool) (xs : List A) → filter (λ x. not (test x)) xs ≡ []
    → All (λ x. test x ≡ true) xs
none_left test [] h = All-nil (λ x. test x ≡ true)
none_left test (x ∷ xs) h = search (arith, none_left test xs)

none_mapped : {A B : Type 0} (f : A → B) (xs : List A) → map f xs ≡ [] → xs ≡ []
none_mapped f [] h = refl
none_mapped f (x ∷ xs) h = absurd cc

no_first : (names : List (List ℕ)) → option_map refuse.NotGrouped (first_name names) ≡ None
    → names ≡ []
no_first [] h = refl
no_first (name ∷ names) h = absurd cc

-- in a grouped query each item is a key or a call, and each column of HAVING outside a call is a
-- key
pub record AreKeysOrCalls (columns : List FromColumn) (q : Query) : Type 0 where
  pub items : All (λ (i : Item). CanBePicked (is_key_of columns q.keys) i.what) (listed q.items)
  pub having : All (λ c. is_key_of columns q.keys c ≡ true)
      (flat_map bare_columns (sides_in (query_tree q).having))

pub are_keys : (q : Query) (schemas : List Schema) → IsWithoutRefusal (query_tree q) schemas
    → is_grouped (query_tree q) ≡ true → AreKeysOrCalls (from_columns (query_tree q) schemas) q
are_keys q schemas a grouped =
    let t = query_tree q in
    let columns = from_columns t schemas in
    let is_key : ColumnRef → Bool = λ c. is_key_of columns q.keys c in
    let in_items = ungrouped_in_items columns q.keys (items_in t.items) in
    let bare = flat_map bare_columns (sides_in t.having) in
    let in_having = filter (λ c. not (is_key c)) bare in
    let none = no_first (ungrouped_names columns t) (rw grouped at a.grouped) in
    let last =
    none_twice (star_name t.items ++ map written in_items) (map written in_having) none in
    let first = none_twice (star_name t.items) (map written in_items) last.0 in
    record {
      items = all_can_be_picked columns is_key (listed q.items)
          (rw (listed_trees q.items) at (none_mapped written in_items first.1))
          (rw (listed_trees q.items) at (all_fit t schemas a).items);
      having = none_left is_key bare (none_mapped written in_having last.1);
    }
