-- What analysis asks and answers.
use Rattle.std.specs.Prelude.{◌<◌, ◌≡◌, ◌⊎◌}
use Rattle.query_model.specs.Prelude.{AggCall, AggOp, All, Bool, Checked, ColumnRef, ColumnType, Count, Grouping, ItemKind, List, Max, Min, None, Operand, Option, Query, Refusal, Schema, Shape, Some, Sum, false, is_some, length, true, ⊤}
use Rattle.query_model.specs.Expressions.{Cond}
use Rattle.query_model.specs.Typing.{IsItem, IsTypedCall, IsTypedCond, group_types}
use Rattle.query_model.specs.Checks.{operands_of, query_calls}
use Rattle.query_model.specs.Refusals.{from_columns, refusal_of, types_of}
use Rattle.query_model.specs.Trees.{query_tree}
use Rattle.query_model.specs.declared.query.ExprOf.TheVariants as expr
use Rattle.query_model.specs.declared.query.Operand.TheVariants as operand
use Rattle.query_model.specs.declared.query.ItemKind.TheVariants as kind
use Rattle.query_model.specs.declared.query.Refusal.TheVariants as refuse
use Rattle.query_model.specs.declared.checked.Shape.TheVariants as shape

abbrev pub HasNoCall : ItemKind → Type 0
HasNoCall (kind.Plain e) = ⊤
HasNoCall (kind.Agg call) = ⊥

abbrev pub IsNoCall : Operand ColumnRef → Type 0
IsNoCall (operand.Plain e) = ⊤
IsNoCall (operand.Text bytes) = ⊤
IsNoCall (operand.Agg call) = ⊥
IsNoCall operand.Null = ⊤

-- an operand of HAVING: a column, a plain number, a text, a call or NULL
abbrev pub MayBeGroupOperand : Operand ColumnRef → Type 0
MayBeGroupOperand (operand.Plain (expr.Column c)) = ⊤
MayBeGroupOperand (operand.Plain (expr.Number n)) = ⊤
MayBeGroupOperand (operand.Plain (expr.Arith' op p a q b)) = ⊥
MayBeGroupOperand (operand.Text bytes) = ⊤
MayBeGroupOperand (operand.Agg call) = ⊤
MayBeGroupOperand operand.Null = ⊤

abbrev pub takes_argument : AggOp → Bool
takes_argument Count = false
takes_argument Sum = true
takes_argument Min = true
takes_argument Max = true

-- `count` has no argument, and each other call has one
abbrev pub HasItsArgument : AggCall ColumnRef → Type 0
HasItsArgument call = is_some call.arg ≡ takes_argument call.op

-- What analysis asks of a query, and a query that is parsed has: WHERE has no call, and HAVING the
-- operands of groups.
pub record IsAnalysable (q : Query) : Type 0 where
  pub filter : All IsNoCall (operands_of q.filter)
  pub having : All MayBeGroupOperand (operands_of q.having)
  pub calls : All HasItsArgument (query_calls q)

-- the refusal is the one that is due; want of memory is free
abbrev pub IsDueRefusal : Query → List Schema → Refusal → Type 0
IsDueRefusal q schemas refusal = (refusal ≡ refuse.Memory) ⊎ (refusal_of q schemas ≡ Some refusal)

-- the types of the columns of From
abbrev pub from_types : Query → List Schema → List ColumnType
from_types q schemas = types_of (from_columns (query_tree q) schemas)

abbrev pub IsTypedFilter : List ColumnType → Option Cond → Type 0
IsTypedFilter types None = Unit {0}
IsTypedFilter types (Some c) = IsTypedCond types c

-- Keys and calls are over the rows' columns, HAVING and the places of items over a row of groups.
pub record IsTypedGrouping (types : List ColumnType) (g : Grouping) : Type 0 where
  pub keys : All (λ k. k < length types) g.keys
  pub calls : All (IsTypedCall types) g.calls
  pub having : IsTypedFilter (group_types g types) g.having
  pub picks : All (λ p. p < length (group_types g types)) g.picks

abbrev pub IsTypedShape : List ColumnType → Shape → Type 0
IsTypedShape types (shape.Plain items) = All (IsItem types) items
IsTypedShape types (shape.Grouped g) = IsTypedGrouping types g

-- what is made of rows and the condition of WHERE are typed by the columns of From
pub record IsTypedQuery (types : List ColumnType) (c : Checked) : Type 0 where
  pub items : IsTypedShape types c.shape
  pub filter : IsTypedFilter types c.filter
