-- Values without NULL, as a column keeps and lends them, seen as a type and a list of values.
use Rattle.std.specs.Prelude.{Bool, IfSome, List, Option, Vec, length, map, ◌≡◌}
use Rattle.chunk_data.specs.declared.plain_column.PlainColumn.{PlainColumn}
use Rattle.chunk_data.specs.declared.plain_column.PlainColumn.TheVariants.{Int64, UInt64, Text}
use Rattle.chunk_data.specs.declared.plain_column.PlainSlice.{PlainSlice}
use Rattle.chunk_data.specs.declared.plain_column.PlainSlice.TheVariants as slice
use Rattle.chunk_data.specs.declared.typed_value.PlainType.{PlainType}
use Rattle.chunk_data.specs.declared.typed_value.PlainType.TheVariants as type
use Rattle.chunk_data.specs.declared.typed_value.Value.{Value}
use Rattle.chunk_data.specs.declared.typed_value.Value.TheVariants as value

abbrev pub plain_column_type : PlainColumn → PlainType
plain_column_type (Int64 numbers) = type.Int64
plain_column_type (UInt64 numbers) = type.UInt64
plain_column_type (Text texts) = type.Text

-- its values, from the first row to the last
abbrev pub plain_values : PlainColumn → List Value
plain_values (Int64 numbers) = map value.Int numbers.items
plain_values (UInt64 numbers) = map value.UInt numbers.items
plain_values (Text texts) = map value.Text texts

-- a truth for each of the values, where there are truths
abbrev pub HasOneEach : {Z : Type 0} → Option (Vec Bool Z) → PlainColumn → Type 0
HasOneEach validity column = IfSome validity (λ v. length v.items ≡ length (plain_values column))

abbrev pub slice_type : PlainSlice → PlainType
slice_type (slice.Ints numbers) = type.Int64
slice_type (slice.UInts numbers) = type.UInt64
slice_type (slice.Texts texts) = type.Text

abbrev pub slice_values : PlainSlice → List Value
slice_values (slice.Ints numbers) = map value.Int numbers.now
slice_values (slice.UInts numbers) = map value.UInt numbers.now
slice_values (slice.Texts texts) = map value.Text texts.now
