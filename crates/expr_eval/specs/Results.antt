-- What operators give at each pair of values.
use Rattle.chunk_data.specs.Names.{Table, column_type, values}
use Rattle.chunk_data.specs.declared.typed_column.Column.{Column}
use Rattle.chunk_data.specs.declared.typed_value.Value.{Value}
use Rattle.chunk_data.specs.Values.{is_plain_uint}
use Rattle.chunk_data.specs.declared.typed_value.PlainType.{PlainType}
use Rattle.chunk_data.specs.declared.typed_value.PlainType.TheVariants as plain
use Rattle.query_model.specs.declared.query.ArithOp.{ArithOp}
use Rattle.query_model.specs.Expressions.{Expr, gives_uint, Truth, comparison, is_true, truth_not, type_of, value_of}
use Rattle.query_model.specs.Prelude.{int_rem_euclid}
use Rattle.query_model.specs.Typing.{IsTyped, plain_of}
use Rattle.query_model.specs.declared.query.CompareOp.{CompareOp}
use Rattle.std.specs.Prelude.{Bool, List, None, Option, Some, false, map, pos, true, unsigned_abs, ℕ, ℤ, ◌&&◌, ◌^◌, ◌||◌, ◌≡◌, if◌then◌else◌}
use Rattle.std.specs.Simd.Lanes.{zip2}
use Rattle.query_model.specs.declared.query.CompareOp.TheVariants as compare
use Rattle.query_model.specs.declared.query.ExprOf.TheVariants as expr

-- the number from 0 to 2 ^ 64 - 1 that equals z modulo 2 ^ 64
abbrev pub residue : ℤ → ℕ
residue z = unsigned_abs (int_rem_euclid z (pos (2 ^ 64)))

-- the operator at two operands, the second of which is written in front where `swapped` is true
abbrev pub swap_if : {X Y : Type 0} → Bool → (X → X → Y) → X → X → Y
swap_if false f x y = f x y
swap_if true f x y = f y x

-- the type of the result of an operator at numbers of one type
abbrev pub result_plain : ArithOp → PlainType → PlainType
result_plain op p =
    if gives_uint op (is_plain_uint p) (is_plain_uint p) then plain.UInt64 else plain.Int64

-- The column that was made of an expression at each row. None is made of a column reference, which
-- is read in place, and none of a plain number.
abbrev pub IsColumnMade : Expr → Table → Option Column → Type 0
IsColumnMade (expr.Column c) table made = made ≡ None
IsColumnMade (expr.Number n) table made = made ≡ None
IsColumnMade (expr.Arith' op p a q b) table None = ⊥
IsColumnMade (expr.Arith' op p a q b) table (Some c) =
    (column_type c ≡ type_of (expr.Arith' op p a q b)
    table.types) × (values c ≡ map (value_of (expr.Arith' op p a q b)) table.rows)

-- the values of an expression over a chunk stand in a column: the one that was made, or that of a
-- column reference
pub record StandsInColumn (e : Expr) (table : Table) (made : Option Column) : Type 0 where
  pub typed : IsTyped table.types e
  pub not_plain : plain_of e ≡ None
  pub column : IsColumnMade e table made

-- whether a comparison is true; one with NULL is not
abbrev pub compares : CompareOp → Value → Value → Bool
compares op a b = is_true (comparison op a b)

-- whether a truth is the one that is asked for; NULL is neither
abbrev pub has_truth : Bool → Truth → Bool
has_truth true t = is_true t
has_truth false t = is_true (truth_not t)

-- the rows that two masks have in common, or those of either
abbrev pub both_or_either : Bool → Bool → Bool → Bool
both_or_either true a b = a && b
both_or_either false a b = a || b

-- where a mask is true of valid values, and all are valid where there is no validity
abbrev pub and_valid : Option (List Bool) → List Bool → List Bool
and_valid None mask = mask
and_valid (Some validity) mask = zip2 ◌&&◌ validity mask

-- the comparison that is false where this one is true
abbrev pub opposite : CompareOp → CompareOp
opposite compare.Eq = compare.Ne
opposite compare.Ne = compare.Eq
opposite compare.Lt = compare.Ge
opposite compare.Le = compare.Gt
opposite compare.Gt = compare.Le
opposite compare.Ge = compare.Lt

abbrev pub opposite_unless : Bool → CompareOp → CompareOp
opposite_unless true op = op
opposite_unless false op = opposite op

-- the comparison that is true of two operands in the other order
abbrev pub flipped : CompareOp → CompareOp
flipped compare.Eq = compare.Eq
flipped compare.Ne = compare.Ne
flipped compare.Lt = compare.Gt
flipped compare.Le = compare.Ge
flipped compare.Gt = compare.Lt
flipped compare.Ge = compare.Le
