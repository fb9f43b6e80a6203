-- The checked query of a query: places where the query has names. By cases on both, since an
-- expression lies in boxes of its own.
use Rattle.std.specs.Prelude.{if◌then◌else◌, ◌++◌, ◌+◌, ◌==◌, ◌∷◌, ◌≡◌}
use Rattle.query_model.specs.Prelude.{AggCall, Bool, Checked, CheckedJoin, ColumnRef, CondOf, ExprOf, Grouping, Item, ItemKind, Items, Join, KeyPair, List, Listed, NamePair, None, Operand, Option, OrderKey, Query, Schema, Shape, Some, Star, TableRef, TableUse, [], bytes_eq, false, flat_map, length, map, true, ℕ}
use Rattle.query_model.specs.Expressions.{Expr, Cond}
use Rattle.query_model.specs.Refusals.{FromColumn, means, same_column, table_columns, from_columns, joins, is_grouped, output_names, types_of}
use Rattle.query_model.specs.Trees.{query_tree, selection}
use Rattle.query_model.specs.Typing.{shape_types}
use Rattle.query_model.specs.declared.query.ExprOf.TheVariants as expr
use Rattle.query_model.specs.declared.query.Operand.TheVariants as operand
use Rattle.query_model.specs.declared.query.CondOf.TheVariants as condition
use Rattle.query_model.specs.declared.query.ItemKind.TheVariants as kind
use Rattle.query_model.specs.declared.query.TableRef.TheVariants as table
use Rattle.query_model.specs.declared.checked.TableUse.TheVariants as use'
use Rattle.query_model.specs.declared.checked.Shape.TheVariants as shape

-- the place of the first that passes
abbrev pub place_of : {A : Type 0} → (A → Bool) → List A → ℕ
place_of test [] = 0
place_of test (x ∷ xs) = if test x then 0 else place_of test xs + 1

-- the lists are as long, and each two are related
abbrev pub EachWith : {A B : Type 0} → (A → B → Type 0) → List A → List B → Type 0
EachWith R [] [] = Unit {0}
EachWith R [] (y ∷ ys) = ⊥
EachWith R (x ∷ xs) [] = ⊥
EachWith R (x ∷ xs) (y ∷ ys) = R x y × EachWith R xs ys

abbrev pub BothOrNone : {A B : Type 0} → (A → B → Type 0) → Option A → Option B → Type 0
BothOrNone R None None = Unit {0}
BothOrNone R None (Some y) = ⊥
BothOrNone R (Some x) None = ⊥
BothOrNone R (Some x) (Some y) = R x y

-- an expression with places for its names, the places by a function
abbrev pub IsPlaced : (ColumnRef → ℕ) → ExprOf ColumnRef → Expr → Type 0
IsPlaced place (expr.Column c) (expr.Column k) = k ≡ place c
IsPlaced place (expr.Number m) (expr.Number n) = m ≡ n
IsPlaced place (expr.Arith' op p a q b) (expr.Arith' op2 r c s d) = (op ≡ op2) × IsPlaced place a c
    × IsPlaced place b d
IsPlaced place _ _ = ⊥

abbrev pub IsPlacedCall : (ColumnRef → ℕ) → AggCall ColumnRef → AggCall ℕ → Type 0
IsPlacedCall place a b = (a.op ≡ b.op) × BothOrNone (IsPlaced place) a.arg b.arg

abbrev pub IsPlacedOperand : (ColumnRef → ℕ) → Operand ColumnRef → Operand ℕ → Type 0
IsPlacedOperand place (operand.Plain a) (operand.Plain b) = IsPlaced place a b
IsPlacedOperand place (operand.Text a) (operand.Text b) = a ≡ b
IsPlacedOperand place operand.Null operand.Null = Unit {0}
IsPlacedOperand place _ _ = ⊥

-- the operands of a condition's comparisons and of IS NULL
unfoldable pub cond_operands : {C : Type 0} → CondOf C → List (Operand C)
cond_operands (condition.Compare op a b) = a ∷ b ∷ []
cond_operands (condition.And' p a q b) = cond_operands a ++ cond_operands b
cond_operands (condition.Or' p a q b) = cond_operands a ++ cond_operands b
cond_operands (condition.Not' p a) = cond_operands a
cond_operands (condition.IsNull a) = a ∷ []

abbrev pub operands_of : Option (CondOf ColumnRef) → List (Operand ColumnRef)
operands_of None = []
operands_of (Some c) = cond_operands c

abbrev pub calls_of : Operand ColumnRef → List (AggCall ColumnRef)
calls_of (operand.Plain e) = []
calls_of (operand.Text bytes) = []
calls_of (operand.Agg call) = call ∷ []
calls_of operand.Null = []

-- an operand of HAVING, where the next call stands in column k
abbrev pub IsGroupedOperand : (ColumnRef → ℕ) → ℕ → Operand ColumnRef → Operand ℕ → Type 0
IsGroupedOperand place k (operand.Agg call) (operand.Plain (expr.Column c)) = c ≡ k
IsGroupedOperand place k (operand.Agg call) _ = ⊥
IsGroupedOperand place k a b = IsPlacedOperand place a b

-- a condition with places; its calls stand from column k on
abbrev pub IsPlacedCond : (ColumnRef → ℕ) → ℕ → CondOf ColumnRef → Cond → Type 0
IsPlacedCond place k (condition.Compare op a b) (condition.Compare op2 c d) =
    (op ≡ op2) × IsGroupedOperand place k a c × IsGroupedOperand place (k + length (calls_of a)) b d
IsPlacedCond place k (condition.And' p a q b) (condition.And' r c s d) =
    IsPlacedCond place k a c
    × IsPlacedCond place (k + length (flat_map calls_of (cond_operands a))) b d
IsPlacedCond place k (condition.Or' p a q b) (condition.Or' r c s d) =
    IsPlacedCond place k a c
    × IsPlacedCond place (k + length (flat_map calls_of (cond_operands a))) b d
IsPlacedCond place k (condition.Not' p a) (condition.Not' r c) = IsPlacedCond place k a c
IsPlacedCond place k (condition.IsNull a) (condition.IsNull c) = IsGroupedOperand place k a c
IsPlacedCond place k _ _ = ⊥

abbrev pub use_of : List Schema → TableRef → TableUse
use_of schemas (table.Named t) =
    use'.Declared (place_of (λ (s : Schema). bytes_eq s.name t) schemas)
use_of schemas (table.Numbers n) = use'.Numbers n

-- a pair of columns of the two tables, whichever way it is written
abbrev pub pair_of : List FromColumn → List FromColumn → NamePair → KeyPair
pair_of left right p =
    if joins left right p.left p.right
    then record { left = place_of (means p.left) left; right = place_of (means p.right) right }
    else record { left = place_of (means p.right) left; right = place_of (means p.left) right }

abbrev pub IsCheckedJoin : Query → List Schema → Join → CheckedJoin → Type 0
IsCheckedJoin q schemas a b =
    (b.table ≡ use_of schemas a.table) × (b.pairs
    ≡ map (pair_of (table_columns schemas q.from) (table_columns schemas a.table)) a.pairs)

abbrev pub listed : Items → List Item
listed Star = []
listed (Listed items) = items

abbrev pub item_calls : ItemKind → List (AggCall ColumnRef)
item_calls (kind.Plain e) = []
item_calls (kind.Agg call) = call ∷ []

-- the calls of items and HAVING, in the order of the text
abbrev pub query_calls : Query → List (AggCall ColumnRef)
query_calls q = flat_map (λ (i : Item). item_calls i.what) (listed q.items)
    ++ flat_map calls_of (operands_of q.having)

-- the place of an item in a row of keys and calls, of which the next call stands in column k;
-- arithmetic has none
abbrev pub IsPick : (ColumnRef → ℕ) → ℕ → ItemKind → ℕ → Type 0
IsPick place k (kind.Plain (expr.Column c)) p = p ≡ place c
IsPick place k (kind.Plain (expr.Number n)) p = ⊥
IsPick place k (kind.Plain (expr.Arith' op l a r b)) p = ⊥
IsPick place k (kind.Agg call) p = p ≡ k

-- the places of items, of which the first call stands in column k
abbrev pub ArePicks : (ColumnRef → ℕ) → ℕ → List Item → List ℕ → Type 0
ArePicks place k [] [] = Unit {0}
ArePicks place k (i ∷ items) (p ∷ picks) = IsPick place k i.what p
    × ArePicks place (k + length (item_calls i.what)) items picks
ArePicks place k _ _ = ⊥

abbrev pub IsPlacedItem : (ColumnRef → ℕ) → Item → Expr → Type 0
IsPlacedItem place i e = go i.what
  where
    go : ItemKind → Type 0
    go (kind.Plain a) = IsPlaced place a e
    go (kind.Agg call) = ⊥

-- all columns of From, in order, from column k on
abbrev pub AreColumnsFrom : ℕ → List FromColumn → List Expr → Type 0
AreColumnsFrom k [] [] = Unit {0}
AreColumnsFrom k (c ∷ columns) (expr.Column n ∷ es) = (n ≡ k) × AreColumnsFrom (k + 1) columns es
AreColumnsFrom k _ _ = ⊥

abbrev pub ArePlainItems : (ColumnRef → ℕ) → List FromColumn → Items → List Expr → Type 0
ArePlainItems place columns Star es = AreColumnsFrom 0 columns es
ArePlainItems place columns (Listed items) es = EachWith (IsPlacedItem place) items es

-- the grouping of a query: keys by their places in From, picks and HAVING by places in a row of
-- keys and calls
pub record IsGrouping (q : Query) (columns : List FromColumn) (g : Grouping) : Type 0 where
  pub keys : g.keys ≡ map (λ c. place_of (means c) columns) q.keys
  pub calls : EachWith (IsPlacedCall (λ c. place_of (means c) columns)) (query_calls q) g.calls
  pub having : BothOrNone (IsPlacedCond (λ c. place_of (same_column columns c) q.keys)
      (length q.keys + length (flat_map (λ (i : Item). item_calls i.what) (listed q.items))))
      q.having g.having
  pub picks : ArePicks (λ c. place_of (same_column columns c) q.keys) (length q.keys)
      (listed q.items) g.picks
  pub lone : g.lone ≡ (length q.keys == 0)

abbrev pub IsShape : Query → List FromColumn → Bool → Shape → Type 0
IsShape q columns false (shape.Plain es) =
    ArePlainItems (λ c. place_of (means c) columns) columns q.items es
IsShape q columns true (shape.Grouped g) = IsGrouping q columns g
IsShape q columns _ _ = ⊥

-- the checked query of a query that no condition refuses
pub record IsChecked (q : Query) (schemas : List Schema) (c : Checked) : Type 0 where
  pub from : c.from ≡ use_of schemas q.from
  pub join : BothOrNone (IsCheckedJoin q schemas) q.join c.join
  pub filter : BothOrNone (IsPlacedCond
      (λ n. place_of (means n) (from_columns (query_tree q) schemas)) 0) q.filter c.filter
  pub shape : IsShape q (from_columns (query_tree q) schemas) (is_grouped (query_tree q)) c.shape
  pub names : c.names ≡ output_names (selection q.items) (from_columns (query_tree q) schemas)
  pub types : c.types ≡ shape_types c.shape (types_of (from_columns (query_tree q) schemas))
  pub order : c.order ≡ map (λ (key : OrderKey). record {
    column = place_of (bytes_eq key.name)
        (output_names (selection q.items) (from_columns (query_tree q) schemas));
    descending = key.descending;
  }) q.order
  pub limit : c.limit ≡ q.limit
