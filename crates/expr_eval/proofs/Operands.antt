-- The operands of typed arithmetic.
use Rattle.expr_eval.proofs.Imports.{arith, AreAlike, Bool, CanHold, Column, ColumnType, Expr, IsColumnMade, None, Option, Row, Some, Table, column_type, if◌then◌else◌, is_text, map, nullable_if, plain_of, plain_value, true, type_of, value_of, values, ℤ, ◌≡◌}
use Rattle.chunk_data.specs.declared.typed_value.PlainType.TheVariants as plain

pub plain_before : (p q : Option ℤ) (s t : ColumnType) (z : ℤ) → p ≡ Some z → AreAlike p s q t
    → (q ≡ None) × CanHold t z
plain_before p q s t z e h = grind arith

pub plain_behind : (p q : Option ℤ) (s t : ColumnType) (z : ℤ) → p ≡ None → q ≡ Some z
    → AreAlike p s q t → CanHold s z
plain_behind p q s t z d e h = grind arith

pub plain_value_of : (e : Expr) (z : ℤ) (row : Row) → plain_of e ≡ Some z
    → value_of e row ≡ plain_value z
unfolding value_of
plain_value_of e z row h = grind arith

pub made_values : (e : Expr) (table : Table) (c : Column) → IsColumnMade e table (Some c)
    → values c ≡ map (value_of e) table.rows
made_values e table c h = grind arith

pub made_type : (e : Expr) (table : Table) (c : Column) → IsColumnMade e table (Some c)
    → column_type c ≡ type_of e table.types
made_type e table c h = grind arith

-- arithmetic gives no text
pub arith_not_text : (n b : Bool)
    → is_text (nullable_if n (if b then plain.UInt64 else plain.Int64)) ≡ true → ⊥
arith_not_text n b e = grind arith
