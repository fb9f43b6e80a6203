-- What the steps of analysis answer.
use Rattle.std.specs.Prelude.{◌++◌, ◌≡◌}
use Rattle.query_model.specs.Prelude.{AggCall, Bool, CheckedJoin, ColumnRef, ExprTyping, ItemKind, Join, List, Option, OrderKey, Schema, Scope, SortKey, bytes_eq, false, find, map, not, option_map, option_or, true, ℕ, ℤ, ⊤}
use Rattle.query_model.specs.Expressions.{number_of}
use Rattle.query_model.specs.Refusals.{FromColumn, OperandTyping, null, plain, typed, unfit, means, written, operand_columns, bare_columns, bare_names, is_key_of, same_column, star_name, first_name, ungrouped_in_items}
use Rattle.query_model.specs.Formulas.{OperandForm}
use Rattle.query_model.specs.Trees.{QueryTree, items_in}
use Rattle.query_model.specs.Checks.{place_of, EachWith, IsPlacedCall, pair_of, use_of}
use Rattle.query_model.specs.declared.query.ExprOf.TheVariants as expr
use Rattle.query_model.specs.declared.query.ItemKind.TheVariants as kind
use Rattle.query_model.specs.declared.analysis.operand_types.ExprTyping.TheVariants as expression
use Rattle.query_model.specs.declared.analysis.placing.Scope.TheVariants as scope

-- Places.

-- the place of the first column that a name means
abbrev pub place_in : List FromColumn → ColumnRef → ℕ
place_in columns c = place_of (means c) columns

-- the place of the first key that is the same column
abbrev pub key_place : List FromColumn → List ColumnRef → ColumnRef → ℕ
key_place columns keys c = place_of (same_column columns c) keys

-- the place of a name among the columns of From, or among the keys of groups
abbrev pub place_by : Scope → List FromColumn → List ColumnRef → ColumnRef → ℕ
place_by scope.Rows columns keys c = place_in columns c
place_by scope.Groups columns keys c = key_place columns keys c

-- calls that are placed behind others
pub record AreAdded
    (columns : List FromColumn) (calls : List (AggCall ColumnRef))
    (before after : List (AggCall ℕ)) : Type 0 where
  pub more : List (AggCall ℕ)
  pub is : after ≡ before ++ more
  pub placed : EachWith (IsPlacedCall (place_in columns)) calls more

-- the join with places in its two tables
pub record IsPlacedJoin
    (schemas : List Schema) (left right : List FromColumn) (a : Join)
    (b : CheckedJoin) : Type 0 where
  pub table : b.table ≡ use_of schemas a.table
  pub pairs : b.pairs ≡ map (pair_of left right) a.pairs

-- a key with the place of its name
abbrev pub sort_key : List (List ℕ) → OrderKey → SortKey
sort_key names key =
    record { column = place_of (bytes_eq key.name) names; descending = key.descending }

-- the columns of an operand, those in a call among them where that is asked for
abbrev pub columns_in : Bool → OperandForm ColumnRef → List ColumnRef
columns_in true o = operand_columns o
columns_in false o = bare_columns o

-- the first of what may not stand in a grouped query
abbrev pub first_ungrouped : List FromColumn → QueryTree → Option (List ℕ)
first_ungrouped columns t =
    option_or (first_name (star_name t.items))
    (option_or (first_name (map written (ungrouped_in_items columns t.keys (items_in t.items))))
    (option_map written (find (λ c. not (is_key_of columns t.keys c)) (bare_names t.having))))

-- what an expression is, with a plain number's value in the place of its spelling
abbrev pub as_typing : ExprTyping → OperandTyping
as_typing (expression.Plain n) = plain (number_of n)
as_typing (expression.Typed t) = typed t
as_typing expression.Null = null
as_typing expression.Unfit = unfit

-- the number of a sign and a size
abbrev pub number_value : Bool → ℕ → ℤ
number_value negative size = number_of (record { negative = negative; size = size })

-- an item of groups: a key or a call
abbrev pub CanBePicked : (ColumnRef → Bool) → ItemKind → Type 0
CanBePicked is_key (kind.Plain (expr.Column c)) = is_key c ≡ true
CanBePicked is_key (kind.Plain (expr.Number n)) = ⊥
CanBePicked is_key (kind.Plain (expr.Arith' op p a q b)) = ⊥
CanBePicked is_key (kind.Agg call) = ⊤
