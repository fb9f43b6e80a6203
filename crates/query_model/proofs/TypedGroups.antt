-- The checked query of a query that no condition refuses is typed.
use Rattle.query_model.proofs.Imports.{OperandForm, AggCall, All, All-append, All-cons, All-head, All-map, All-nil, All-tail, All-weaker, ArePicks, ArePlainItems, Bool, CanBePicked, Checked, ColumnRef, ColumnType, CondOf, EachWith, Expr, FromColumn, Grouping, HasItsArgument, IsAnalysable, IsChecked, IsGrouping, IsItem, IsNoCall, IsPick, IsPlacedCall, IsPlacedItem, IsShape, IsTypedCall, IsTypedGrouping, IsTypedQuery, IsTypedShape, Item, ItemKind, Items, OperandTyping, List, Listed, NamePair, None, Operand, Option, Query, Schema, Shape, Some, Star, [], agg_typing, and_parts, ap, append_assoc, arith, bare_columns, call_type, calls_of, cond, cond_fits, cond_operands, expr_columns, expr_typing, false, filter, fits_where, flat_map, flat_map-append, from_columns, get_or-append-add, group_types, is_grouped, is_key_of, is_typed, item_calls, item_columns, item_typing, join_pairs, key_place, length, length-append, length-map, list_all, list_any, listed, map, means, meant, nat_lt, null, operand_columns, operands_of, place_in, place_of, plain, query_calls, refl, refusal_of, same_column, slice_index_or, subst, suc, sym, text_columns, true, typed, type_at, types_of, unfit, ℕ, ◌&&◌, ◌++◌, ◌+◌, ◌<◌, ◌==◌, ◌||◌, ◌∙◌, ◌∷◌, ◌≡◌, ◌≤◌, argument_form, cond_form, formula, item_tree, item_what, items_in, option_map, query_tree, selection, sides_in, from_types, ItemTree, QueryTree}
use Rattle.chunk_data.specs.declared.typed_value.ColumnType.TheVariants as column
use Rattle.query_model.specs.Names.{type_of}
use Rattle.query_model.specs.Formulas as form
use Rattle.query_model.specs.declared.query.CondOf.TheVariants as cond'
use Rattle.query_model.specs.declared.query.ExprOf.TheVariants as expr
use Rattle.query_model.specs.declared.query.Operand.TheVariants as operand
use Rattle.query_model.specs.declared.query.ItemKind.TheVariants as kind
use Rattle.query_model.specs.declared.checked.Shape.TheVariants as shape
use Rattle.query_model.proofs.Placed.{All-front, All-behind}
use Rattle.query_model.proofs.PlaceLaws.{place_within}
use Rattle.query_model.proofs.CallLaws.{length_each}
use Rattle.query_model.proofs.TypedQueries.{IsOfKind, IsFit, IsTypeOf, IsWellPlaced, HaveTypesOf, have_types_both, is_item, columns_are_typed, column_is_of_kind, every_column, expr_is_of_kind, call_is_of_kind, filter_is_typed}
use Rattle.query_model.proofs.Accepted.{IsWithoutRefusal, unrefused_is_accepted, knows_each, tells_each, AllTypesFit, all_fit, AreKeysOrCalls, are_keys, listed_trees}

-- Names that mean one column.

-- no other passes behind one that passes
none_behind : {A : Type 0} (test : A → Bool) (xs : List A)
    → nat_lt 1 (suc (length (filter test xs))) ≡ false → list_any test xs ≡ false
none_behind test [] h = refl
none_behind test (x ∷ xs) h = search (arith, none_behind test xs)

both_any : {A : Type 0} (f g : A → Bool) (xs : List A) → list_any (λ x. f x && g x) xs ≡ true
    → (list_any f xs ≡ true) × (list_any g xs ≡ true)
both_any f g [] h = absurd cc
both_any f g (x ∷ xs) h = search (arith, both_any f g xs)

-- two tests that one passes, and no two pass the one or the other, are passed at one place
same_place : {A : Type 0} (f g : A → Bool) (xs : List A) → list_any (λ x. f x && g x) xs ≡ true
    → nat_lt 1 (length (filter f xs)) ≡ false → nat_lt 1 (length (filter g xs)) ≡ false
    → place_of f xs ≡ place_of g xs
same_place f g [] h one other = absurd cc
same_place f g (x ∷ xs) h one other = search (arith, both_any, none_behind, same_place f g xs)

-- a name that means a column has a place among the columns
some_meant : {A : Type 0} (test : A → Bool) (xs : List A) → (length (filter test xs) == 0) ≡ false
    → list_any test xs ≡ true
some_meant test [] h = absurd cc
some_meant test (x ∷ xs) h = search (arith, some_meant test xs)

-- what holds of each that passes holds at the first that passes
at_place : {A : Type 0} (test : A → Bool) (f : A → ℕ) (g : ℕ → ColumnType) (v : ℕ) (d : ColumnType)
    (xs : List A) (rest : List ColumnType) → All (λ x. test x ≡ true → f x ≡ v) xs
    → list_any test xs ≡ true → slice_index_or (map g (map f xs) ++ rest) (place_of test xs) d ≡ g v
at_place test f g v d [] rest all h = absurd cc
at_place test f g v d (x ∷ xs) rest all h =
    go (test x) refl h
    (at_place test f g v d xs rest (All-tail (λ x. test x ≡ true → f x ≡ v) x xs all))
  where
    go : (b : Bool) → test x ≡ b → (b || list_any test xs) ≡ true
        → (list_any test xs ≡ true
        → slice_index_or (map g (map f xs) ++ rest) (place_of test xs) d ≡ g v)
        → slice_index_or (map g (map f (x ∷ xs)) ++ rest) (cond b 0 (place_of test xs + 1)) d ≡ g v
    go true e h more = ap g (All-head (λ x. test x ≡ true → f x ≡ v) x xs all e)
    go false e h more =
        rw (let next : place_of test xs + 1 ≡ suc (place_of test xs) = omega arith in next) (more h)

module _ (columns : List FromColumn) where
  abbrev types : List ColumnType
  types = types_of columns

  abbrev place : ColumnRef → ℕ
  place = place_in columns

  abbrev IsKnown : ColumnRef → Type 0
  IsKnown c = (length (meant c columns) == 0) ≡ false

  abbrev MeansOne : ColumnRef → Type 0
  MeansOne c = nat_lt 1 (length (meant c columns)) ≡ false

  -- Keys.

  abbrev key_types : List ColumnRef → List ColumnType
  key_types keys = map (type_at types) (map place keys)

  -- a name of a key is well placed in a row of groups
  all_well_placed : (keys : List ColumnRef) (rest : List ColumnType) (cs : List ColumnRef)
      → All MeansOne keys → All MeansOne cs → All (λ c. is_key_of columns keys c ≡ true) cs
      → All (IsWellPlaced (key_types keys ++ rest) columns (key_place columns keys)) cs
  unfolding type_of
  all_well_placed keys rest cs one each are k d lt =
      go (slice_index_or cs k d) (each k d lt) (are k d lt)
    where
      go : (c : ColumnRef) → MeansOne c → is_key_of columns keys c ≡ true
          → IsWellPlaced (key_types keys ++ rest) columns (key_place columns keys) c
      go c is key =
          let within = place_within (same_column columns c) keys key in
          let type = at_place (same_column columns c) place (type_at types) (place c) column.Text
          keys rest (All-weaker MeansOne (λ k. same_column columns c k ≡ true → place k ≡ place
          c) (λ k one same. sym (same_place (means c) (means k) columns same is one)) keys one)
          key in
          search (arith, column_is_of_kind, length-append, length-map, IsOfKind, within, type)

  keys_within : (keys : List ColumnRef) → All IsKnown keys
      → All (λ k. k < length types) (map place keys)
  keys_within keys h =
      All-map (λ k. k < length types) place keys
      (All-weaker IsKnown (λ c. place c < length types) (λ c known.
      let e = length-map columns (λ (x : FromColumn). x.type) in
      let lt = place_within (means c) columns (some_meant (means c) columns known) in
      omega (arith, e, lt)) keys h)

  -- Calls.

  abbrev IsFitCall : AggCall ColumnRef → Type 0
  IsFitCall call = IsFit (agg_typing columns call.op (argument_form call.arg))

  abbrev ArePlacedCalls : List (AggCall ColumnRef) → List (AggCall ℕ) → Type 0
  ArePlacedCalls calls placed = EachWith (IsPlacedCall place) calls placed

  calls_typed : (calls : List (AggCall ColumnRef)) (placed : List (AggCall ℕ)) → ArePlacedCalls
      calls placed → All HasItsArgument calls → All IsFitCall calls → All (IsTypedCall types) placed
  calls_typed [] [] is has fit = All-nil (IsTypedCall types)
  calls_typed (call ∷ calls) (p ∷ placed) is has fit =
      All-cons (IsTypedCall types) p placed
      ((call_is_of_kind columns call p (All-head HasItsArgument call calls has) is.0).typed
      (All-head IsFitCall call calls fit))
      (calls_typed calls placed is.1 (All-tail HasItsArgument call calls has)
      (All-tail IsFitCall call calls fit))
  calls_typed calls placed is has fit = absurd is

  abbrev types_of_calls : List (AggCall ℕ) → List ColumnType
  types_of_calls calls = map (λ (call : AggCall ℕ). call_type call.op call.arg types) calls

  call_type_at : (front rest : List ColumnType) (k : ℕ) (t : ColumnType) (x : OperandTyping)
      → k ≡ length front → IsTypeOf t x → IsOfKind (front ++ t ∷ rest) (expr.Column k) x
  unfolding type_of
  call_type_at front rest k t (plain z) at h = absurd h
  call_type_at front rest k t (typed s) at h = (
    let e = length-append front (t ∷ rest) in omega (arith, at, e),
    refl,
    ap (type_at (front ++ t ∷ rest)) (let e : k ≡ length front + 0 = omega (arith, at) in e)
        ∙ get_or-append-add front (t ∷ rest) 0 column.Text ∙ h,
  )
  call_type_at front rest k t null at h = absurd h
  call_type_at front rest k t unfit at h = tt

  calls_have_types : (front : List ColumnType) (k : ℕ) (calls : List (AggCall ColumnRef))
      (placed : List (AggCall ℕ)) → k ≡ length front → ArePlacedCalls calls placed
      → All HasItsArgument calls → HaveTypesOf (front ++ types_of_calls placed) columns k calls
  calls_have_types front k [] [] at is has = tt
  calls_have_types front k (call ∷ calls) (p ∷ placed) at is has =
      let t = call_type p.op p.arg types in (
        call_type_at front (types_of_calls placed) k t
            (agg_typing columns call.op (argument_form call.arg)) at
            (call_is_of_kind columns call p (All-head HasItsArgument call calls has) is.0).type,
        subst (λ types. HaveTypesOf types columns (k + 1) calls)
            (append_assoc front (t ∷ []) (types_of_calls placed))
            (calls_have_types (front ++ t ∷ []) (k + 1) calls placed (let e = length-append front
            (t ∷ []) in omega (arith, at, e)) is.1 (All-tail HasItsArgument call calls has)),
      )
  calls_have_types front k calls placed at is has = absurd is

  -- The calls of a query whose types fit.

  abbrev AreTyped : List ItemTree → Type 0
  AreTyped items = list_all (λ (i : ItemTree). is_typed (item_typing columns i.what)) items ≡ true

  abbrev calls_in_items : List Item → List (AggCall ColumnRef)
  calls_in_items items = flat_map (λ (i : Item). item_calls i.what) items

  item_calls_fit : (items : List Item) → AreTyped (map item_tree items)
      → All IsFitCall (calls_in_items items)
  item_calls_fit [] h = All-nil IsFitCall
  item_calls_fit (i ∷ items) h =
      grind (arith, and_parts, All-append, All-cons, All-nil, item_calls_fit items)

  cond_calls_fit : (c : CondOf ColumnRef) → cond_fits columns (cond_form c) ≡ true
      → All IsFitCall (flat_map calls_of (cond_operands c))
  unfolding cond_operands cond_fits
  cond_calls_fit (cond'.Compare op a b) h = search (arith, IsFit)
  cond_calls_fit (cond'.And' p a q b) h =
      let each = and_parts (cond_fits columns (cond_form a)) _ h in
      rw (flat_map-append calls_of (cond_operands a) (cond_operands b))
      (All-append IsFitCall _ _ (cond_calls_fit a each.0) (cond_calls_fit b each.1))
  cond_calls_fit (cond'.Or' p a q b) h =
      let each = and_parts (cond_fits columns (cond_form a)) _ h in
      rw (flat_map-append calls_of (cond_operands a) (cond_operands b))
      (All-append IsFitCall _ _ (cond_calls_fit a each.0) (cond_calls_fit b each.1))
  cond_calls_fit (cond'.Not' p a) h = cond_calls_fit a h
  cond_calls_fit (cond'.IsNull a) h = search (arith, IsFit)

  having_calls_fit : (h : Option (CondOf ColumnRef))
      → fits_where columns (option_map cond_form h) ≡ true
      → All IsFitCall (flat_map calls_of (operands_of h))
  having_calls_fit None fits = All-nil IsFitCall
  having_calls_fit (Some c) fits = cond_calls_fit c fits

  -- Picks.

  picks_within : (keys : List ColumnRef) (n k : ℕ) (items : List Item) (picks : List ℕ)
      → length keys ≤ k → k + length (calls_in_items items) ≤ n
      → All (λ (i : Item). CanBePicked (is_key_of columns keys) i.what) items
      → ArePicks (key_place columns keys) k items picks → All (λ p. p < n) picks
  picks_within keys n k [] [] low high can is = All-nil (λ p. p < n)
  picks_within keys n k (i ∷ items) (p ∷ picks) low high can is =
      let Can : Item → Type 0 = λ (i : Item). CanBePicked (is_key_of columns keys) i.what in
      let e = length-append (item_calls i.what) (calls_in_items items) in
      All-cons (λ p. p < n) p picks
      (here i.what (omega (arith, high, e)) (All-head Can i items can) is.0)
      (picks_within keys n (k + length (item_calls i.what)) items picks (omega (arith, low))
      (omega (arith, high, e)) (All-tail Can i items can) is.1)
    where
      here : (x : ItemKind) → k + length (item_calls x) ≤ n → CanBePicked (is_key_of columns keys) x
          → IsPick (key_place columns keys) k x p → p < n
      here (kind.Plain (expr.Column c)) le c_is is = let lt =
          place_within (same_column columns c) keys c_is in omega (arith, low, le, lt, is)
      here (kind.Agg call) le c_is is = omega (arith, le, is)
      here x le c_is is = absurd is
  picks_within keys n k items picks low high can is = absurd is

-- The parts of the text.

module _ (P : ColumnRef → Type 0) (t : QueryTree) (h : All P (text_columns t)) where
  abbrev before_keys : List ColumnRef
  before_keys =
      flat_map (λ (i : ItemTree). item_columns i.what) (items_in t.items)
      ++ flat_map (λ (p : NamePair). p.left ∷ p.right ∷ []) (join_pairs t.join)
      ++ flat_map operand_columns (sides_in t.filter)

  in_keys : All P t.keys
  in_keys =
      All-behind P before_keys t.keys
      (All-front P (before_keys ++ t.keys) (flat_map operand_columns (sides_in t.having)) h)

  in_having : All P (flat_map operand_columns (sides_in t.having))
  in_having = search (arith, All-behind)

bare_among : (P : ColumnRef → Type 0) (os : List (OperandForm ColumnRef))
    → All P (flat_map operand_columns os) → All P (flat_map bare_columns os)
bare_among P [] h = All-nil P
bare_among P (form.plain e ∷ os) h =
    All-append P (expr_columns e) (flat_map bare_columns os)
    (All-front P (expr_columns e) (flat_map operand_columns os) h)
    (bare_among P os (All-behind P (expr_columns e) (flat_map operand_columns os) h))
bare_among P (o ∷ os) h =
    bare_among P os (All-behind P (operand_columns o) (flat_map operand_columns os) h)

no_calls : (os : List (Operand ColumnRef)) → All IsNoCall os → flat_map calls_of os ≡ []
no_calls [] h = refl
no_calls (operand.Agg call ∷ os) h = absurd (All-head IsNoCall (operand.Agg call) os h)
no_calls (o ∷ os) h = no_calls os (All-tail IsNoCall o os h)

-- The whole.

plain_items_typed : (columns : List FromColumn) (items : Items) (es : List Expr)
    → ArePlainItems (place_in columns) columns items es
    → AreTyped columns (items_in (selection items))
    → All (IsItem (types_of columns)) es
plain_items_typed columns Star es is h =
    columns_are_typed (types_of columns) 0 columns es is
    (let e = length-map columns (λ (x : FromColumn). x.type) in omega (arith, e))
plain_items_typed columns (Listed items) es is h = go items es is h
  where
    here : (k : ItemKind) (alias : Option (List ℕ)) (e : Expr)
        → IsPlacedItem (place_in columns) (record { what = k; alias = alias }) e
        → is_typed (item_typing columns (item_what k)) ≡ true → IsItem (types_of columns) e
    here (kind.Plain a) alias e is t =
        is_item (types_of columns) e (expr_typing columns (formula a))
        (expr_is_of_kind (types_of columns) columns (place_in columns) a e
        (every_column columns (expr_columns (formula a))) is) t
    here (kind.Agg call) alias e is t = absurd is

    go : (items : List Item) (es : List Expr) → EachWith (IsPlacedItem (place_in columns)) items es
        → AreTyped columns (map item_tree items) → All (IsItem (types_of columns)) es
    go [] [] is h = All-nil (IsItem (types_of columns))
    go (i ∷ items) (e ∷ es) is h =
        let each = and_parts (is_typed (item_typing columns (item_what i.what))) _ h in
        All-cons (IsItem (types_of columns)) e es (here i.what i.alias e is.0 each.0)
        (go items es is.1 each.1)
    go items es is h = absurd is

grouping_typed : (q : Query) (columns : List FromColumn) (g : Grouping) → IsGrouping q columns g
    → IsAnalysable q → AllTypesFit columns (query_tree q) → AreKeysOrCalls columns q
    → All (IsKnown columns) (text_columns (query_tree q))
    → All (MeansOne columns) (text_columns (query_tree q)) → IsTypedGrouping (types_of columns) g
grouping_typed q columns g is can fit are known one =
    let in_items = calls_in_items columns (listed q.items) in
    let in_having_calls = flat_map calls_of (operands_of q.having) in
    let front = key_types columns q.keys in
    let rest = types_of_calls columns g.calls in
    let types_are : group_types g (types_of columns) ≡ front ++ rest =
    ap (λ keys. map (type_at (types_of columns)) keys ++ rest)
    is.keys in
    let long : length q.keys ≡ length front =
    sym (length-map (map (place_in columns) q.keys) (type_at (types_of columns))
    ∙ length-map q.keys (place_in columns)) in
    record {
      keys = rw is.keys
          (keys_within columns q.keys (in_keys (IsKnown columns) (query_tree q) known));
      calls =
          calls_typed columns (query_calls q) g.calls is.calls can.calls
          (All-append (IsFitCall columns) in_items in_having_calls (item_calls_fit columns
          (listed q.items) (rw (listed_trees q.items) at fit.items))
          (having_calls_fit columns q.having fit.having));
      having =
          rw types_are (filter_is_typed (front ++ rest) columns (key_place columns q.keys)
          (length q.keys + length in_items) q.having g.having
          (all_well_placed columns q.keys rest
          (flat_map bare_columns (sides_in (query_tree q).having))
          (in_keys (MeansOne columns) (query_tree q) one)
          (bare_among (MeansOne columns) (sides_in (query_tree q).having)
          (in_having (MeansOne columns) (query_tree q) one)) are.having)
          (have_types_both (front ++ rest) columns (length q.keys) in_items in_having_calls
          (calls_have_types columns front (length q.keys) (query_calls q) g.calls long is.calls
          can.calls)).1
          is.having fit.having);
      picks =
          let a = length-append front rest in
          let b = length-map g.calls
          (λ (call : AggCall ℕ). call_type call.op call.arg (types_of columns)) in
          let c = length_each (IsPlacedCall (place_in columns)) (query_calls q) g.calls is.calls in
          let d = length-append in_items in_having_calls in
          rw types_are (picks_within columns q.keys (length (front ++ rest)) (length q.keys)
          (listed q.items) g.picks (omega arith)
          (omega (arith, a, b, c, d, long)) are.items is.picks);
    }

-- The checked query of a query that no condition refuses is typed.
pub checked_is_typed : (q : Query) (schemas : List Schema) (c : Checked) → IsAnalysable q
    → refusal_of q schemas ≡ None → IsChecked q schemas c
    → IsTypedQuery (from_types q schemas) c
checked_is_typed q schemas c can none is =
    let columns = from_columns (query_tree q) schemas in
    record {
      items = shape_typed (is_grouped (query_tree q)) refl c.shape is.shape;
      filter =
          filter_is_typed (types_of columns) columns (place_in columns) 0 q.filter c.filter
          (every_column columns (flat_map bare_columns (sides_in (query_tree q).filter)))
          (rw (no_calls (operands_of q.filter) can.filter) tt) is.filter
          (all_fit (query_tree q) schemas ok).filter;
    }
  where
    ok : IsWithoutRefusal (query_tree q) schemas
    ok = unrefused_is_accepted q schemas none

    shape_typed : (b : Bool) → is_grouped (query_tree q) ≡ b → (s : Shape)
        → IsShape q (from_columns (query_tree q) schemas) b s
        → IsTypedShape (from_types q schemas) s
    shape_typed false e (shape.Plain es) is =
        plain_items_typed (from_columns (query_tree q) schemas) q.items es is
        (all_fit (query_tree q) schemas ok).items
    shape_typed true e (shape.Grouped g) is =
        grouping_typed q (from_columns (query_tree q) schemas) g is can
        (all_fit (query_tree q) schemas ok) (are_keys q schemas ok e)
        (knows_each (query_tree q) schemas ok) (tells_each (query_tree q) schemas ok)
    shape_typed b e s is = absurd is
