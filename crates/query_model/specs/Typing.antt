-- Which expressions and conditions may be evaluated over columns of given types.
use Rattle.std.specs.Prelude.{◌++◌, ◌<◌, ◌^◌, ◌≡◌}
use Rattle.query_model.specs.Prelude.{AggCall, AggOp, Bool, ColumnType, Count, Grouped, Grouping, List, Max, Min, None, Operand, Option, Plain, Shape, Some, Sum, false, length, map, nat_lt, negsuc, pos, true, ℕ, ℤ}
use Rattle.chunk_data.specs.Values.{is_text, plain_type, type_at}
use Rattle.chunk_data.specs.declared.typed_value.ColumnType.TheVariants as column
use Rattle.chunk_data.specs.declared.typed_value.PlainType.{PlainType}
use Rattle.chunk_data.specs.declared.typed_value.PlainType.TheVariants as plain
use Rattle.query_model.specs.declared.query.ExprOf.TheVariants as expr
use Rattle.query_model.specs.declared.query.Operand.TheVariants as operand
use Rattle.query_model.specs.declared.query.CondOf.TheVariants as cond'
use Rattle.query_model.specs.Expressions.{Expr, Cond, number_of, type_of}
use Rattle.query_model.specs.Groups.{call_type}

-- the number of an expression that is a plain number
abbrev pub plain_of : Expr → Option ℤ
plain_of (expr.Column c) = None
plain_of (expr.Number n) = Some (number_of n)
plain_of (expr.Arith' op p a q b) = None

abbrev pub plain_holds : PlainType → ℤ → Bool
plain_holds plain.Int64 (pos n) = nat_lt n (2 ^ 63)
plain_holds plain.Int64 (negsuc n) = nat_lt n (2 ^ 63)
plain_holds plain.UInt64 (pos n) = nat_lt n (2 ^ 64)
plain_holds plain.UInt64 (negsuc n) = false
plain_holds plain.Text z = false

-- whether the type has the number
abbrev pub can_hold : ColumnType → ℤ → Bool
can_hold t z = plain_holds (plain_type t) z

abbrev pub CanHold : ColumnType → ℤ → Type 0
CanHold t z = can_hold t z ≡ true

-- two columns of numbers of one type
abbrev pub AreNumbersAlike : ColumnType → ColumnType → Type 0
AreNumbersAlike s t = (plain_type s ≡ plain_type t) × (is_text s ≡ false)

-- Arithmetic is of two operands of one type of numbers. One of them may be a plain number that the
-- other's type has.
abbrev pub AreAlike : Option ℤ → ColumnType → Option ℤ → ColumnType → Type 0
AreAlike None s None t = AreNumbersAlike s t
AreAlike None s (Some z) t = CanHold s z
AreAlike (Some z) s None t = CanHold t z
AreAlike (Some y) s (Some z) t = ⊥

-- the expression is typed by the columns' types; a plain number alone is
abbrev pub IsTyped : List ColumnType → Expr → Type 0
IsTyped types (expr.Column c) = c < length types
IsTyped types (expr.Number n) = Unit {0}
IsTyped types (expr.Arith' op p a q b) = IsTyped types a × IsTyped types b
    × AreAlike (plain_of a) (type_of a types) (plain_of b) (type_of b types)

-- what an item of SELECT may be: typed, and not a plain number alone
pub record IsItem (types : List ColumnType) (e : Expr) : Type 0 where
  pub typed : IsTyped types e
  pub not_plain : plain_of e ≡ None

-- the type of a side of a comparison
abbrev pub operand_type : Operand ℕ → List ColumnType → ColumnType
operand_type (operand.Plain e) types = type_of e types
operand_type (operand.Text bytes) types = column.Text
operand_type (operand.Agg call) types = column.Text
operand_type operand.Null types = column.NullText

-- an aggregate call stands in no checked condition
abbrev pub IsTypedOperand : List ColumnType → Operand ℕ → Type 0
IsTypedOperand types (operand.Plain e) = IsTyped types e
IsTypedOperand types (operand.Text bytes) = Unit {0}
IsTypedOperand types (operand.Agg call) = ⊥
IsTypedOperand types operand.Null = Unit {0}

abbrev pub is_null_operand : Operand ℕ → Bool
is_null_operand (operand.Plain e) = false
is_null_operand (operand.Text bytes) = false
is_null_operand (operand.Agg call) = false
is_null_operand operand.Null = true

-- a comparison is of two numbers, of two texts, or with NULL
abbrev pub AreComparable : List ColumnType → Operand ℕ → Operand ℕ → Type 0
AreComparable types a b = is_null_operand a ≡ false → is_null_operand b ≡ false
    → is_text (operand_type a types) ≡ is_text (operand_type b types)

-- the condition is typed by the columns' types
abbrev pub IsTypedCond : List ColumnType → Cond → Type 0
IsTypedCond types (cond'.Compare op a b) = IsTypedOperand types a × IsTypedOperand types b
    × AreComparable types a b
IsTypedCond types (cond'.And' p a q b) = IsTypedCond types a × IsTypedCond types b
IsTypedCond types (cond'.Or' p a q b) = IsTypedCond types a × IsTypedCond types b
IsTypedCond types (cond'.Not' p a) = IsTypedCond types a
IsTypedCond types (cond'.IsNull a) = IsTypedOperand types a

-- `count` is over nothing, and each other call over what an item may be; texts have no sum
abbrev pub IsTypedArgument : List ColumnType → AggOp → Option Expr → Type 0
IsTypedArgument types Count None = Unit {0}
IsTypedArgument types Count (Some e) = ⊥
IsTypedArgument types Sum None = ⊥
IsTypedArgument types Sum (Some e) = IsItem types e × (is_text (type_of e types) ≡ false)
IsTypedArgument types Min None = ⊥
IsTypedArgument types Min (Some e) = IsItem types e
IsTypedArgument types Max None = ⊥
IsTypedArgument types Max (Some e) = IsItem types e

abbrev pub IsTypedCall : List ColumnType → AggCall ℕ → Type 0
IsTypedCall types call = IsTypedArgument types call.op call.arg

-- the types of a row of groups: those of the keys, and then those of the calls
abbrev pub group_types : Grouping → List ColumnType → List ColumnType
group_types g types =
    map (type_at types) g.keys
    ++ map (λ (call : AggCall ℕ). call_type call.op call.arg types) g.calls

-- the types of the rows that a shape makes of rows of these types
abbrev pub shape_types : Shape → List ColumnType → List ColumnType
shape_types (Plain items) types = map (λ e. type_of e types) items
shape_types (Grouped g) types = map (type_at (group_types g types)) g.picks
