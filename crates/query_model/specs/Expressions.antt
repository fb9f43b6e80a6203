-- The value of an expression and the truth of a condition, at a row.
use Rattle.std.specs.Prelude.{if◌then◌else◌, ◌&&◌, ◌*ℤ◌, ◌+ℤ◌, ◌-ℤ◌, ◌||◌}
use Rattle.query_model.specs.Prelude.{Add, ArithOp, Bool, ColumnType, CompareOp, CondOf, ExprOf, List, Mul, None, Number, Operand, Option, Ordering, Row, Some, Sub, Value, [], false, filter, int_cmp, is_eq, is_ge, is_gt, is_le, is_lt, is_ne, is_null, neg_ℤ, negsuc, not, option_map, pos, text_cmp, true, value_at, ℕ, ℤ}
use Rattle.chunk_data.specs.Values.{is_nullable, is_plain_uint, nullable_if, plain_type, type_at}
use Rattle.query_model.specs.Numbers.{exact, is_uint, wrapped}
use Rattle.chunk_data.specs.declared.typed_value.Value.TheVariants as value
use Rattle.chunk_data.specs.declared.typed_value.ColumnType.TheVariants as column
use Rattle.chunk_data.specs.declared.typed_value.PlainType.TheVariants as plain
use Rattle.query_model.specs.declared.query.CompareOp.TheVariants as compare
use Rattle.query_model.specs.declared.query.ExprOf.TheVariants as expr
use Rattle.query_model.specs.declared.query.Operand.TheVariants as operand
use Rattle.query_model.specs.declared.query.CondOf.TheVariants as cond'

abbrev pub Expr : Type 0
Expr = ExprOf ℕ

abbrev pub Cond : Type 0
Cond = CondOf ℕ

-- a plain number as it is written
abbrev pub number_of : Number → ℤ
number_of n = if n.negative then neg_ℤ (pos n.size) else pos n.size

-- A plain number is a UInt64 where it is not negative. Beside an Int64 it counts as one, by
-- `arith`.
abbrev pub plain_value : ℤ → Value
plain_value (pos n) = value.UInt n
plain_value (negsuc n) = value.Int (negsuc n)

-- the type of its value
abbrev pub number_type : ℤ → ColumnType
number_type (pos n) = column.UInt64
number_type (negsuc n) = column.Int64

abbrev pub exact_result : ArithOp → ℤ → ℤ → ℤ
exact_result Add a b = a +ℤ b
exact_result Sub a b = a -ℤ b
exact_result Mul a b = a *ℤ b

-- whether the result is a UInt64: that of + and * of two such
abbrev pub gives_uint : ArithOp → Bool → Bool → Bool
gives_uint Add a b = a && b
gives_uint Sub a b = false
gives_uint Mul a b = a && b

-- NULL where an operand is NULL, else the number of the result's type that equals the exact result
-- modulo 2 ^ 64
abbrev pub arith_value : ArithOp → Value → Value → Value
arith_value op a b = if is_null a || is_null b then value.Null
    else wrapped (gives_uint op (is_uint a) (is_uint b)) (exact_result op (exact a) (exact b))

-- the value of an expression at a row
unfoldable pub value_of : Expr → Row → Value
value_of (expr.Column c) row = value_at row c
value_of (expr.Number n) row = plain_value (number_of n)
value_of (expr.Arith' op p a q b) row = arith_value op (value_of a row) (value_of b row)

abbrev pub is_uint_column : ColumnType → Bool
is_uint_column t = is_plain_uint (plain_type t)

-- the type of the result of an operator at operands of these types of numbers, which may be NULL
-- where an operand may
abbrev pub arith_type : ArithOp → ColumnType → ColumnType → ColumnType
arith_type op s t = nullable_if (is_nullable s || is_nullable t)
    (if gives_uint op (is_uint_column s) (is_uint_column t) then plain.UInt64 else plain.Int64)

-- the same where the operands' types are one
abbrev pub result_type : ArithOp → ColumnType → ColumnType
result_type op t = arith_type op t t

-- the type of an expression over columns of these types
unfoldable pub type_of : Expr → List ColumnType → ColumnType
type_of (expr.Column c) types = type_at types c
type_of (expr.Number n) types = number_type (number_of n)
type_of (expr.Arith' op p a q b) types = arith_type op (type_of a types) (type_of b types)

-- Texts are compared by bytes, and numbers by their exact values. No checked condition compares a
-- text and a number; there the text counts as 0. NULL is never asked for, and counts as 0 too.
abbrev pub compared : Value → Value → Ordering
compared (value.Int a) (value.Int b) = int_cmp a b
compared (value.Int a) (value.UInt b) = int_cmp a (pos b)
compared (value.Int a) (value.Text b) = int_cmp a (pos 0)
compared (value.Int a) value.Null = int_cmp a (pos 0)
compared (value.UInt a) (value.Int b) = int_cmp (pos a) b
compared (value.UInt a) (value.UInt b) = int_cmp (pos a) (pos b)
compared (value.UInt a) (value.Text b) = int_cmp (pos a) (pos 0)
compared (value.UInt a) value.Null = int_cmp (pos a) (pos 0)
compared (value.Text a) (value.Int b) = int_cmp (pos 0) b
compared (value.Text a) (value.UInt b) = int_cmp (pos 0) (pos b)
compared (value.Text a) (value.Text b) = text_cmp a b
compared (value.Text a) value.Null = int_cmp (pos 0) (pos 0)
compared value.Null (value.Int b) = int_cmp (pos 0) b
compared value.Null (value.UInt b) = int_cmp (pos 0) (pos b)
compared value.Null (value.Text b) = int_cmp (pos 0) (pos 0)
compared value.Null value.Null = int_cmp (pos 0) (pos 0)

abbrev pub passes : CompareOp → Ordering → Bool
passes compare.Eq o = is_eq o
passes compare.Ne o = is_ne o
passes compare.Lt o = is_lt o
passes compare.Le o = is_le o
passes compare.Gt o = is_gt o
passes compare.Ge o = is_ge o

-- The value of a side of a comparison. A checked condition has no aggregate call: it has the column
-- of its value.
unfoldable pub operand_value : Operand ℕ → Row → Value
operand_value (operand.Plain e) row = value_of e row
operand_value (operand.Text bytes) row = value.Text bytes
operand_value (operand.Agg call) row = value.Text []
operand_value operand.Null row = value.Null

-- true, false, or NULL where there is none
abbrev pub Truth : Type 0
Truth = Option Bool

abbrev pub truth_not : Truth → Truth
truth_not t = option_map not t

-- false where one side is false, else NULL where one side is NULL
abbrev pub truth_and : Truth → Truth → Truth
truth_and (Some false) b = Some false
truth_and (Some true) b = b
truth_and None (Some false) = Some false
truth_and None (Some true) = None
truth_and None None = None

-- true where one side is true, else NULL where one side is NULL
abbrev pub truth_or : Truth → Truth → Truth
truth_or (Some true) b = Some true
truth_or (Some false) b = b
truth_or None (Some true) = Some true
truth_or None (Some false) = None
truth_or None None = None

-- a comparison with NULL is NULL
abbrev pub comparison : CompareOp → Value → Value → Truth
comparison op a b = if is_null a || is_null b then None else Some (passes op (compared a b))

-- the truth of a condition at a row
unfoldable pub truth_of : Cond → Row → Truth
truth_of (cond'.Compare op a b) row = comparison op (operand_value a row) (operand_value b row)
truth_of (cond'.And' p a q b) row = truth_and (truth_of a row) (truth_of b row)
truth_of (cond'.Or' p a q b) row = truth_or (truth_of a row) (truth_of b row)
truth_of (cond'.Not' p a) row = truth_not (truth_of a row)
truth_of (cond'.IsNull a) row = Some (is_null (operand_value a row))

abbrev pub is_true : Truth → Bool
is_true None = false
is_true (Some b) = b

-- whether a condition is true at a row
abbrev pub holds : Cond → Row → Bool
holds c row = is_true (truth_of c row)

-- the rows at which a condition is true; all rows where there is none
abbrev pub rows_where : Option Cond → List Row → List Row
rows_where None rows = rows
rows_where (Some c) rows = filter (holds c) rows
