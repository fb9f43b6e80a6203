-- Values, rows and tables, and how they are ordered.
use Rattle.std.specs.Prelude.{◌≡◌, ℕ, ◌<◌, Bool, Option, None, Some, cond, true, false, List, [], ◌∷◌, length, pos, slice_get, slice_index_or}
use Rattle.std.specs.List.{All}
use Rattle.std.specs.Ordering.{nat_cmp, int_cmp, is_eq, ordering_reverse, ordering_then}
use Rattle.std.specs.Simd.Lanes.{zip2}
use Rattle.std.specs.declared.cmp.Ordering.{Ordering}
use Rattle.std.specs.declared.cmp.Ordering.TheVariants.{Less, Equal, Greater}
use Rattle.std.specs.Cmp.Lexicographic.{slice_cmp}
use Rattle.chunk_data.specs.declared.typed_value.Value.{Value}
use Rattle.chunk_data.specs.declared.typed_value.Value.TheVariants.{Int, UInt, Text, Null}
use Rattle.chunk_data.specs.declared.typed_value.ColumnType.{ColumnType}
use Rattle.chunk_data.specs.declared.typed_value.ColumnType.TheVariants as column
use Rattle.chunk_data.specs.declared.typed_value.PlainType.{PlainType}
use Rattle.chunk_data.specs.declared.typed_value.PlainType.TheVariants as plain
use Rattle.chunk_data.specs.declared.typed_value.SortKey.{SortKey}

abbrev pub Row : Type 0
Row = List Value

-- a table is a list of rows of given types
pub record Table : Type 0 where
  pub types : List ColumnType
  pub rows : List Row

-- the type of a column's values, NULL apart
abbrev pub plain_type : ColumnType → PlainType
plain_type column.Int64 = plain.Int64
plain_type column.UInt64 = plain.UInt64
plain_type column.Text = plain.Text
plain_type column.NullInt64 = plain.Int64
plain_type column.NullUInt64 = plain.UInt64
plain_type column.NullText = plain.Text

-- whether a column of the type may have NULL
abbrev pub is_nullable : ColumnType → Bool
is_nullable column.Int64 = false
is_nullable column.UInt64 = false
is_nullable column.Text = false
is_nullable column.NullInt64 = true
is_nullable column.NullUInt64 = true
is_nullable column.NullText = true

-- the type of a column of these values, which may have NULL or not
abbrev pub nullable_if : Bool → PlainType → ColumnType
nullable_if false plain.Int64 = column.Int64
nullable_if false plain.UInt64 = column.UInt64
nullable_if false plain.Text = column.Text
nullable_if true plain.Int64 = column.NullInt64
nullable_if true plain.UInt64 = column.NullUInt64
nullable_if true plain.Text = column.NullText

abbrev pub is_plain_int : PlainType → Bool
is_plain_int plain.Int64 = true
is_plain_int plain.UInt64 = false
is_plain_int plain.Text = false

abbrev pub is_plain_uint : PlainType → Bool
is_plain_uint plain.Int64 = false
is_plain_uint plain.UInt64 = true
is_plain_uint plain.Text = false

abbrev pub is_plain_text : PlainType → Bool
is_plain_text plain.Int64 = false
is_plain_text plain.UInt64 = false
is_plain_text plain.Text = true

abbrev pub same_plain : PlainType → PlainType → Bool
same_plain plain.Int64 p = is_plain_int p
same_plain plain.UInt64 p = is_plain_uint p
same_plain plain.Text p = is_plain_text p

-- whether the values are texts; else they are numbers
abbrev pub is_text : ColumnType → Bool
is_text t = is_plain_text (plain_type t)

-- whether the types are one, Nullable apart
abbrev pub same_type : ColumnType → ColumnType → Bool
same_type s t = same_plain (plain_type s) (plain_type t)

-- a column of the type may have the value
abbrev pub FitsType : ColumnType → Value → Type 0
FitsType t (Int z) = plain_type t ≡ plain.Int64
FitsType t (UInt n) = plain_type t ≡ plain.UInt64
FitsType t (Text bytes) = plain_type t ≡ plain.Text
FitsType t Null = is_nullable t ≡ true

-- a row of the types: one value for each column, and each fits its column's type
abbrev pub FitsTypes : List ColumnType → Row → Type 0
FitsTypes [] [] = Unit {0}
FitsTypes [] (v ∷ row) = ⊥
FitsTypes (t ∷ types) [] = ⊥
FitsTypes (t ∷ types) (v ∷ row) = FitsType t v × FitsTypes types row

-- each row fits the types
abbrev pub IsTable : Table → Type 0
IsTable t = All (FitsTypes t.types) t.rows

abbrev pub plain_default : PlainType → Value
plain_default plain.Int64 = Int (pos 0)
plain_default plain.UInt64 = UInt 0
plain_default plain.Text = Text []

-- NULL in a column that may have NULL, else 0 or the empty text
abbrev pub default_value : ColumnType → Value
default_value t = cond (is_nullable t) Null (plain_default (plain_type t))

-- the value, or NULL where it isn't valid
abbrev pub or_null : Bool → Value → Value
or_null valid v = cond valid v Null

-- the values, with NULL where the validity beside them is false; without validity none is NULL
abbrev pub with_nulls : Option (List Bool) → List Value → List Value
with_nulls None vs = vs
with_nulls (Some validity) vs = zip2 or_null validity vs

-- the value at a place of a row or a column, which is in range
abbrev pub value_at : List Value → ℕ → Value
value_at values c = slice_index_or values c (Text [])

-- the type of a column, which is in range
abbrev pub type_at : List ColumnType → ℕ → ColumnType
type_at types c = slice_index_or types c column.Text

-- the values at the places, in the places' order
abbrev pub values_at : List ℕ → List Value → List Value
values_at [] values = []
values_at (c ∷ cs) values = value_at values c ∷ values_at cs values

-- texts are ordered by bytes, a proper prefix first
abbrev pub text_cmp : List ℕ → List ℕ → Ordering
text_cmp = slice_cmp nat_cmp

-- The order of the values of a column: NULL stands after every other value, and two NULLs tie.
-- Values of two types never stand in one column; there the first of Int64, UInt64 and String comes
-- first.
abbrev pub value_cmp : Value → Value → Ordering
value_cmp (Int a) (Int b) = int_cmp a b
value_cmp (Int a) (UInt b) = Less
value_cmp (Int a) (Text b) = Less
value_cmp (Int a) Null = Less
value_cmp (UInt a) (Int b) = Greater
value_cmp (UInt a) (UInt b) = nat_cmp a b
value_cmp (UInt a) (Text b) = Less
value_cmp (UInt a) Null = Less
value_cmp (Text a) (Int b) = Greater
value_cmp (Text a) (UInt b) = Greater
value_cmp (Text a) (Text b) = text_cmp a b
value_cmp (Text a) Null = Less
value_cmp Null (Int b) = Greater
value_cmp Null (UInt b) = Greater
value_cmp Null (Text b) = Greater
value_cmp Null Null = Equal

-- rows are compared value by value
abbrev pub same_row : Row → Row → Bool
same_row a b = is_eq (slice_cmp value_cmp a b)

abbrev pub is_null : Value → Bool
is_null (Int z) = false
is_null (UInt n) = false
is_null (Text bytes) = false
is_null Null = true

-- an order of two values that aren't NULL, and what it is where the first or the second is NULL
abbrev pub nulls_last : Bool → Bool → Ordering → Ordering
nulls_last false false order = order
nulls_last false true order = Less
nulls_last true false order = Greater
nulls_last true true order = Equal

-- NULL stands last in both directions
abbrev pub key_cmp : Bool → Value → Value → Ordering
key_cmp false a b = value_cmp a b
key_cmp true a b = nulls_last (is_null a) (is_null b) (ordering_reverse (value_cmp a b))

-- the key's column stands in both lists of types, with one type
abbrev pub AgreeOnKey : List ColumnType → List ColumnType → SortKey → Type 0
AgreeOnKey left right key =
    (key.column < length left) × (key.column < length right)
    × (slice_get left key.column ≡ slice_get right key.column)

-- rows are compared by the keys in turn
unfoldable pub row_cmp : List SortKey → Row → Row → Ordering
row_cmp [] a b = Equal
row_cmp (key ∷ keys) a b = ordering_then
    (key_cmp key.descending (value_at a key.column) (value_at b key.column)) (row_cmp keys a b)
