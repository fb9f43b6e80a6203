-- The columns of a chunk, seen as a type and a list of values each.
use Rattle.std.specs.Prelude.{◌≡◌, ℕ, Bool, List, Option, drop, is_some, map, take}
use Rattle.std.specs.Option.{option_map}
use Rattle.chunk_data.specs.declared.typed_column.Column.{Column}
use Rattle.chunk_data.specs.declared.typed_value.ColumnType.{ColumnType}
use Rattle.chunk_data.specs.declared.typed_value.Value.{Value}
use Rattle.chunk_data.specs.PlainColumns.{plain_column_type, plain_values}
use Rattle.chunk_data.specs.Rows.{AreLong}
use Rattle.chunk_data.specs.Values.{nullable_if, with_nulls}

-- the type of a column's values
abbrev pub column_type : Column → ColumnType
column_type c = nullable_if (is_some c.validity) (plain_column_type c.plain)

-- which of a column's values aren't NULL, in a column that may have NULL
abbrev pub column_validity : Column → Option (List Bool)
column_validity c = option_map (λ v. v.items) c.validity

-- what a column keeps at each row: at a NULL any value of its type
abbrev pub stored_values : Column → List Value
stored_values c = plain_values c.plain

-- a column's values, from the first row to the last
abbrev pub values : Column → List Value
values c = with_nulls (column_validity c) (stored_values c)

-- n of a column's values, from a place on
abbrev pub value_range : ℕ → ℕ → Column → List Value
value_range from n c = take n (drop from (values c))

-- the columns have the types, and each has `count` values
pub record AreColumns (types : List ColumnType) (columns : List Column) (count : ℕ) : Type 0 where
  pub kinds : map column_type columns ≡ types
  pub long : AreLong count (map values columns)
