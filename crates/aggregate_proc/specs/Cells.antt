-- The values of a column of a group table, and which of them a column may fold.
use Rattle.std.specs.Prelude.{◌≡◌, ◌≢◌, ◌<◌, Bool, List, None, Option, Some, false, length, map, not, slice_index_or, true, ℕ, ℤ}
use Rattle.aggregate_proc.specs.Prelude.{ColumnType, Value}
use Rattle.chunk_data.specs.Values.{is_text}
use Rattle.chunk_data.specs.declared.typed_value.ColumnType.TheVariants as column
use Rattle.chunk_data.specs.declared.typed_value.Value.TheVariants as value
use Rattle.aggregate_proc.specs.declared.fold.FoldValues.{FoldValues}
use Rattle.aggregate_proc.specs.declared.fold.FoldValues.TheVariants as cells
use Rattle.aggregate_proc.specs.declared.fold.Fold.{Fold}
use Rattle.aggregate_proc.specs.declared.fold.Fold.TheVariants as fold
use Rattle.aggregate_proc.specs.Folds.{FoldColumn}

-- the type of the column that they make
abbrev pub cell_type : FoldValues → ColumnType
cell_type (cells.Ints numbers) = column.Int64
cell_type (cells.UInts numbers) = column.UInt64
cell_type (cells.Texts texts) = column.Text
cell_type (cells.NullableInts numbers) = column.NullInt64
cell_type (cells.NullableUInts numbers) = column.NullUInt64
cell_type (cells.NullableTexts texts) = column.NullText

abbrev pub int_value : Option ℤ → Value
int_value None = value.Null
int_value (Some z) = value.Int z

abbrev pub uint_value : Option ℕ → Value
uint_value None = value.Null
uint_value (Some n) = value.UInt n

abbrev pub text_value : Option (List ℕ) → Value
text_value None = value.Null
text_value (Some bytes) = value.Text bytes

abbrev pub cell_values : FoldValues → List Value
cell_values (cells.Ints numbers) = map value.Int numbers.items
cell_values (cells.UInts numbers) = map value.UInt numbers.items
cell_values (cells.Texts texts) = map value.Text texts.items
cell_values (cells.NullableInts numbers) = map int_value numbers.items
cell_values (cells.NullableUInts numbers) = map uint_value numbers.items
cell_values (cells.NullableTexts texts) = map text_value texts.items

abbrev pub can_count : ColumnType → Bool
can_count column.Int64 = false
can_count column.UInt64 = true
can_count column.Text = false
can_count column.NullInt64 = false
can_count column.NullUInt64 = false
can_count column.NullText = false

-- a count is a UInt64, and texts have no sum
abbrev pub can_fold : Fold → ColumnType → Bool
can_fold fold.Count t = can_count t
can_fold fold.AddCounts t = can_count t
can_fold fold.Add t = not (is_text t)
can_fold fold.First t = true
can_fold fold.Least t = true
can_fold fold.Greatest t = true

-- a column of the input is of the type that it folds; a count takes none
abbrev pub FitsColumn : List ColumnType → FoldColumn → Type 0
FitsColumn types c =
    c.op ≢ fold.Count → (c.input < length types) × (slice_index_or types c.input c.kind ≡ c.kind)
