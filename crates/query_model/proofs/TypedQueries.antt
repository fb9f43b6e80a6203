-- A query whose types fit has typed items and a typed condition, once its names have places.
use Rattle.query_model.proofs.Imports.{AggCall, AggOp, All, All-head, All-nil, AreColumnsFrom, AreNumbersAlike, ArithOp, BothOrNone, CanHold, ColumnRef, ColumnType, CompareOp, Cond, CondOf, Count, Expr, ExprOf, FromColumn, HasItsArgument, IsGroupedOperand, IsItem, IsPlaced, IsPlacedCall, IsPlacedCond, IsTyped, IsTypedCall, IsTypedCond, IsTypedFilter, IsTypedOperand, OperandTyping, List, None, Operand, Option, Some, [], agg_typing, and_parts, append-nil, arith, arith_typing, arith_type, bare_columns, call_typing, call_type, calls_of, comparable, cond_fits, cond_operands, expr_columns, expr_typing, false, fits_where, flat_map, flat_map-append, has_null_test, is_null_operand, is_some, is_text, is_typed, known_typing, length, means, meant_type, not, not-true, null, operand_typing, operand_type, operands_of, place_in, place_of, plain, number_type, plain_of, refl, result_type, same_plain-is, same_type, sym, takes_argument, true, typed, types_of, unfit, type_of, ℕ, ℤ, ⊤, ◌&&◌, ◌++◌, ◌+◌, ◌∙◌, ◌∷◌, ◌≡◌, ◌≤◌, argument_form, cond_form, formula, map, map-append, operand_form, option_map, sides_in, sides_of}
use Rattle.query_model.specs.declared.query.ExprOf.TheVariants as expr
use Rattle.query_model.specs.declared.query.Operand.TheVariants as operand
use Rattle.query_model.specs.declared.query.CondOf.TheVariants as cond'
use Rattle.query_model.proofs.Placed.{All-front, All-behind}
use Rattle.query_model.proofs.WorkedRows.{Place}

-- A placed expression is of a kind. Nothing is said of one whose types don't fit.
abbrev pub IsOfKind : List ColumnType → Expr → OperandTyping → Type 0
IsOfKind types e (plain z) = IsTyped types e × (plain_of e ≡ Some z)
IsOfKind types e (typed t) = IsTyped types e × (plain_of e ≡ None) × (type_of e types ≡ t)
IsOfKind types e null = ⊥
IsOfKind types e unfit = ⊤

-- the same of a side of a comparison
abbrev pub IsOperandOfKind : List ColumnType → Operand ℕ → OperandTyping → Type 0
IsOperandOfKind types o (plain z) = IsTypedOperand types o
    × (is_text (operand_type o types) ≡ false)
IsOperandOfKind types o (typed t) = IsTypedOperand types o × (operand_type o types ≡ t)
IsOperandOfKind types o null = IsTypedOperand types o × (is_null_operand o ≡ true)
IsOperandOfKind types o unfit = ⊤

-- A column.

pub column_is_of_kind : (c : ColumnRef) (columns : List FromColumn) → IsOfKind (types_of columns)
    (expr.Column (place_of (means c) columns)) (known_typing (meant_type columns c))
unfolding type_of
column_is_of_kind c [] = tt
column_is_of_kind c (x ∷ columns) = search (arith, column_is_of_kind c columns)

-- Arithmetic.

alike_types : (s t : ColumnType) → (same_type s t && not (is_text s)) ≡ true → AreNumbersAlike s t
alike_types s t h = search (arith, same_type, same_plain-is, not-true)

-- the type of a result beside a plain number is that of two operands of the other's type
pub type_before : (op : ArithOp) (t : ColumnType) (z : ℤ) → CanHold t z
    → arith_type op (number_type z) t ≡ result_type op t
type_before op t z h = grind arith

pub type_behind : (op : ArithOp) (t : ColumnType) (z : ℤ) → CanHold t z
    → arith_type op t (number_type z) ≡ result_type op t
type_behind op t z h = grind arith

module _ (types : List ColumnType) where
  pub type_of_number : (e : Expr) (z : ℤ) → plain_of e ≡ Some z → type_of e types ≡ number_type z
  unfolding type_of
  type_of_number (expr.Number n) z h = search (arith)
  type_of_number e z h = absurd cc

  module _ (op : ArithOp) (p q : Place) (a b : Expr) where
    alike_arith : (s t : ColumnType) → IsOfKind types a (typed s) → IsOfKind types b (typed t)
        → IsOfKind types (expr.Arith' op p a q b) (arith_typing op (typed s) (typed t))
    unfolding type_of
    alike_arith s t h k = grind (arith, alike_types)

    arith_is_of_kind : (x y : OperandTyping) → IsOfKind types a x → IsOfKind types b y
        → IsOfKind types (expr.Arith' op p a q b) (arith_typing op x y)
    unfolding type_of
    arith_is_of_kind (typed s) (typed t) h k = alike_arith s t h k
    arith_is_of_kind (typed t) (plain z) h k = search (arith, type_of_number, type_behind)
    arith_is_of_kind (plain z) (typed t) h k = search (arith, type_of_number, type_before)
    arith_is_of_kind x y h k = tt

  -- Conditions.

  operand_is_of_kind : (e : Expr) (kind : OperandTyping) → IsOfKind types e kind
      → IsOperandOfKind types (operand.Plain e) kind
  operand_is_of_kind e (plain z) h = search (arith, type_of_number)
  operand_is_of_kind e (typed t) h = (h.0, h.2)
  operand_is_of_kind e null h = absurd h
  operand_is_of_kind e unfit h = tt

  no_null : (o : Operand ℕ) → is_null_operand o ≡ true → is_null_operand o ≡ false → ⊥
  no_null o is none = cc

  comparison_is_typed : (op : CompareOp) (a b : Operand ℕ) (x y : OperandTyping)
      → IsOperandOfKind types a x → IsOperandOfKind types b y → comparable x y ≡ true
      → IsTypedCond types (cond'.Compare op a b)
  comparison_is_typed op a b (plain y) (plain z) h k e = (h.0, k.0, λ m n. h.1 ∙ sym k.1)
  comparison_is_typed op a b (typed s) (typed t) h k e = (h.0, k.0, λ m n. search (arith))
  comparison_is_typed op a b (typed s) (plain z) h k e = (h.0, k.0, λ m n. search (arith))
  comparison_is_typed op a b (plain z) (typed t) h k e = (h.0, k.0, λ m n. search (arith))
  comparison_is_typed op a b null (typed t) h k e = (h.0, k.0, λ m n. absurd (no_null a h.1 m))
  comparison_is_typed op a b null (plain z) h k e = (h.0, k.0, λ m n. absurd (no_null a h.1 m))
  comparison_is_typed op a b null null h k e = (h.0, k.0, λ m n. absurd (no_null a h.1 m))
  comparison_is_typed op a b (typed s) null h k e = (h.0, k.0, λ m n. absurd (no_null b k.1 n))
  comparison_is_typed op a b (plain z) null h k e = (h.0, k.0, λ m n. absurd (no_null b k.1 n))
  comparison_is_typed op a b x y h k e = absurd cc

  -- an operand of which IS NULL may be asked
  typed_side : (o : Operand ℕ) (x : OperandTyping) → IsOperandOfKind types o x
      → is_typed x ≡ true → IsTypedOperand types o
  typed_side o (typed t) h e = h.0
  typed_side o x h e = absurd cc

  pub null_test_is_typed : (columns : List FromColumn) (a : Operand ColumnRef) (o : Operand ℕ)
      → IsOperandOfKind types o (operand_typing columns (operand_form a))
      → has_null_test columns (operand_form a) ≡ true → IsTypedOperand types o
  null_test_is_typed columns (operand.Plain e) o h fits =
      typed_side o (expr_typing columns (formula e)) h fits
  null_test_is_typed columns (operand.Text bytes) o h fits = h.0
  null_test_is_typed columns (operand.Agg call) o h fits =
      typed_side o (agg_typing columns call.op (argument_form call.arg)) h fits
  null_test_is_typed columns operand.Null o h fits = h.0

  -- Items.

  pub is_item : (e : Expr) (kind : OperandTyping) → IsOfKind types e kind → is_typed kind ≡ true
      → IsItem types e
  is_item e (typed t) h k = record { typed = h.0; not_plain = h.1 }
  is_item e kind h k = absurd cc

  -- all columns
  pub columns_are_typed : (k : ℕ) (columns : List FromColumn) (es : List Expr)
      → AreColumnsFrom k columns es → k + length columns ≤ length types → All (IsItem types) es
  columns_are_typed k [] [] h lt = All-nil (IsItem types)
  columns_are_typed k (c ∷ columns) (expr.Column n ∷ es) h lt =
      search (arith, columns_are_typed (k + 1) columns es h.1 (omega (arith, lt)))
  columns_are_typed k columns es h lt = absurd h

-- Placed expressions, calls and conditions.

-- a name whose place has the type of its column
abbrev pub IsWellPlaced : List ColumnType → List FromColumn → (ColumnRef → ℕ) → ColumnRef → Type 0
IsWellPlaced types columns place c =
    IsOfKind types (expr.Column (place c)) (known_typing (meant_type columns c))

pub every_column : (columns : List FromColumn) (cs : List ColumnRef)
    → All (IsWellPlaced (types_of columns) columns (place_in columns)) cs
every_column columns [] = All-nil (IsWellPlaced (types_of columns) columns (place_in columns))
every_column columns (c ∷ cs) = search (arith, column_is_of_kind, every_column columns cs)

module _ (types : List ColumnType) (columns : List FromColumn) (place : ColumnRef → ℕ) where
  abbrev Placed : ColumnRef → Type 0
  Placed c = IsWellPlaced types columns place c

  pub expr_is_of_kind : (e : ExprOf ColumnRef) (p : Expr) → All (IsWellPlaced types columns place)
      (expr_columns (formula e)) → IsPlaced place e p
      → IsOfKind types p (expr_typing columns (formula e))
  unfolding expr_columns expr_typing
  expr_is_of_kind (expr.Column c) (expr.Column k) h is = search (arith, types, All-head)
  expr_is_of_kind (expr.Number m) (expr.Number n) h is = search (arith)
  expr_is_of_kind (expr.Arith' op p a q b) (expr.Arith' o r c s d) h is =
      rw is.0 (arith_is_of_kind types o r s c d (expr_typing columns (formula a))
      (expr_typing columns (formula b))
      (expr_is_of_kind a c (All-front Placed (expr_columns (formula a)) _ h) is.1)
      (expr_is_of_kind b d (All-behind Placed (expr_columns (formula a)) _ h) is.2))
  expr_is_of_kind e p h is = absurd is

-- types that fit
abbrev pub IsFit : OperandTyping → Type 0
IsFit (plain z) = ⊤
IsFit (typed t) = ⊤
IsFit null = ⊤
IsFit unfit = ⊥

-- the type of a call, where its types fit
abbrev pub IsTypeOf : ColumnType → OperandTyping → Type 0
IsTypeOf t (plain z) = ⊥
IsTypeOf t (typed s) = t ≡ s
IsTypeOf t null = ⊥
IsTypeOf t unfit = ⊤

-- a call that is placed: it is typed where its types fit, and its type is that of its kind
pub record IsCallOfKind (types : List ColumnType) (call : AggCall ℕ) (kind : OperandTyping) : Type
    0 where
  pub typed : IsFit kind → IsTypedCall types call
  pub type : IsTypeOf (call_type call.op call.arg types) kind

over_argument : (types : List ColumnType) (op : AggOp) (e : Expr) (k : OperandTyping) → true
    ≡ takes_argument
    op → IsOfKind types e k → IsCallOfKind types (record { op = op; arg = Some e })
    (call_typing op k)
over_argument types Count e k h is = absurd cc
over_argument types op e (typed t) h is = search (arith)
over_argument types op e null h is = absurd is
over_argument types op e k h is = record { typed = λ f. absurd f; type = tt }

pub call_is_of_kind : (columns : List FromColumn) (call : AggCall ColumnRef) (placed : AggCall ℕ)
    → HasItsArgument call → IsPlacedCall (place_in columns) call placed
    → IsCallOfKind (types_of columns) placed (agg_typing columns call.op (argument_form call.arg))
call_is_of_kind columns call placed has is =
    rw (← is.0) (go call.op call.arg placed.arg has is.1)
  where
    go : (op : AggOp) (a : Option (ExprOf ColumnRef)) (p : Option Expr)
        → is_some a ≡ takes_argument op → BothOrNone (IsPlaced (place_in columns)) a p
        → IsCallOfKind (types_of columns) (record { op = op; arg = p })
        (agg_typing columns op (argument_form a))
    go Count None None h each = record { typed = λ f. tt; type = refl }
    go op None None h each = absurd cc
    go op (Some e) (Some p) h each =
        over_argument (types_of columns) op p (expr_typing columns (formula e)) h
        (expr_is_of_kind (types_of columns) columns (place_in columns) e p
        (every_column columns (expr_columns (formula e))) each)
    go op a p h each = absurd each

-- the columns from column k on have the types of the calls
abbrev pub HaveTypesOf : List ColumnType → List FromColumn → ℕ → List (AggCall ColumnRef) → Type 0
HaveTypesOf types columns k [] = ⊤
HaveTypesOf types columns k (call ∷ calls) = IsOfKind types (expr.Column k)
    (agg_typing columns call.op (argument_form call.arg)) × HaveTypesOf types columns (k + 1) calls

pub have_types_both : (types : List ColumnType) (columns : List FromColumn) (k : ℕ)
    (xs ys : List (AggCall ColumnRef)) → HaveTypesOf types columns k (xs ++ ys)
    → HaveTypesOf types columns k xs × HaveTypesOf types columns (k + length xs) ys
have_types_both types columns k [] ys h = (tt, rw (let same : k + 0 ≡ k = omega arith in same) h)
have_types_both types columns k (x ∷ xs) ys h =
    grind (arith, have_types_both types columns (k + 1) xs ys)

-- the forms of a condition's operands are the sides of its form
pub forms-are-sides : {C : Type 0} (c : CondOf C)
    → map operand_form (cond_operands c) ≡ sides_of (cond_form c)
unfolding cond_operands sides_of
forms-are-sides (cond'.Compare op a b) = refl
forms-are-sides (cond'.And' p a q b) =
    search (arith, map-append, forms-are-sides a, forms-are-sides b)
forms-are-sides (cond'.Or' p a q b) =
    search (arith, map-append, forms-are-sides a, forms-are-sides b)
forms-are-sides (cond'.Not' p a) = forms-are-sides a
forms-are-sides (cond'.IsNull a) = refl

module _ (types : List ColumnType) (columns : List FromColumn) (place : ColumnRef → ℕ) where
  -- of operands whose calls stand from column k on: the names are well placed, and the calls have
  -- their types
  record ArePlaced (k : ℕ) (os : List (Operand ColumnRef)) : Type 0 where
    names : All (IsWellPlaced types columns place) (flat_map bare_columns (map operand_form os))
    calls : HaveTypesOf types columns k (flat_map calls_of os)

  placed_operand : (k : ℕ) (a : Operand ColumnRef) (b : Operand ℕ) → ArePlaced k (a ∷ [])
      → IsGroupedOperand place k a b
      → IsOperandOfKind types b (operand_typing columns (operand_form a))
  placed_operand k (operand.Plain e) (operand.Plain p) h is =
      operand_is_of_kind types p (expr_typing columns (formula e))
      (expr_is_of_kind types columns place e p (rw append-nil at h.names) is)
  placed_operand k (operand.Text a) (operand.Text bytes) h is = (tt, refl)
  placed_operand k (operand.Agg call) (operand.Plain (expr.Column c)) h is =
      grind (arith, operand_is_of_kind)
  placed_operand k operand.Null operand.Null h is = (tt, refl)
  placed_operand k a b h is = absurd is

  two_sides : (k : ℕ) (a b : List (Operand ColumnRef)) → ArePlaced k (a ++ b)
      → ArePlaced k a × ArePlaced (k + length (flat_map calls_of a)) b
  two_sides k a b h =
      let P : ColumnRef → Type 0 = IsWellPlaced types columns place in
      let names = rw (
        map-append operand_form a b,
        flat_map-append bare_columns
            (map operand_form a) (map operand_form b),
      ) at h.names in
      let calls = have_types_both types columns k (flat_map calls_of a) (flat_map calls_of b)
      (rw (flat_map-append calls_of a b) at h.calls) in (
        record {
          names = All-front P (flat_map bare_columns (map operand_form a)) _ names;
          calls = calls.0;
        },
        record {
          names = All-behind P (flat_map bare_columns (map operand_form a)) _ names;
          calls = calls.1;
        },
      )

  -- a condition whose names are well placed is typed where its types fit
  cond_is_typed : (k : ℕ) (c : CondOf ColumnRef) (p : Cond) → ArePlaced k (cond_operands c)
      → IsPlacedCond place k c p → cond_fits columns (cond_form c) ≡ true → IsTypedCond types p
  unfolding cond_operands cond_fits
  cond_is_typed k (cond'.Compare op a b) (cond'.Compare op2 c d) h is fits =
      grind (arith, two_sides k (a ∷ []) (b ∷ []), append-nil, placed_operand, comparison_is_typed)
  cond_is_typed k (cond'.And' p a q b) (cond'.And' r c s d) h is fits =
      grind (
        arith,
        two_sides k (cond_operands a) (cond_operands b),
        and_parts,
        cond_is_typed k a c,
        cond_is_typed (k + length (flat_map calls_of (cond_operands a))) b d,
      )
  cond_is_typed k (cond'.Or' p a q b) (cond'.Or' r c s d) h is fits =
      grind (
        arith,
        two_sides,
        and_parts,
        cond_is_typed k a c,
        cond_is_typed (k + length (flat_map calls_of (cond_operands a))) b d,
      )
  cond_is_typed k (cond'.Not' p a) (cond'.Not' r c) h is fits = cond_is_typed k a c h is fits
  cond_is_typed k (cond'.IsNull a) (cond'.IsNull c) h is fits =
      null_test_is_typed types columns a c (placed_operand k a c h is) fits
  cond_is_typed k c p h is fits = absurd is

  pub filter_is_typed : (k : ℕ) (f : Option (CondOf ColumnRef)) (p : Option Cond)
      → All (IsWellPlaced types columns place)
      (flat_map bare_columns (sides_in (option_map cond_form f)))
      → HaveTypesOf types columns k (flat_map calls_of (operands_of f))
      → BothOrNone (IsPlacedCond place k) f p → fits_where columns (option_map cond_form f) ≡ true
      → IsTypedFilter types p
  filter_is_typed k None None h t is fits = tt
  filter_is_typed k (Some c) (Some p) h t is fits =
      cond_is_typed k c p (record { names = rw (forms-are-sides c) h; calls = t }) is fits
  filter_is_typed k f p h t is fits = absurd is
