-- The names of this crate's definitions in one place: who needs several of its files imports from
-- here.
pub use Rattle.chunk_data.specs.Columns.{AreColumns, column_type, column_validity, stored_values, value_range, values}
pub use Rattle.chunk_data.specs.PlainColumns.{plain_column_type, plain_values, slice_type, slice_values}
pub use Rattle.chunk_data.specs.Rows.{AreLong, adds, append_each, kept, row_at, rows_of}
pub use Rattle.chunk_data.specs.Texts.{AreEnds, cut}
pub use Rattle.chunk_data.specs.Values.{AgreeOnKey, FitsType, FitsTypes, IsTable, Row, Table, is_null, is_nullable, is_plain_uint, is_text, key_cmp, nullable_if, with_nulls, or_null, plain_type, same_plain, same_type, text_cmp, type_at, value_at, value_cmp}
unfoldable pub use Rattle.chunk_data.specs.Values.{row_cmp}
pub use Rattle.chunk_data.specs.declared.typed_column.Column.{Column}
pub use Rattle.chunk_data.specs.declared.typed_value.ColumnType.{ColumnType}
pub use Rattle.chunk_data.specs.declared.typed_value.PlainType.{PlainType}
pub use Rattle.chunk_data.specs.declared.typed_value.SortKey.{SortKey}
pub use Rattle.chunk_data.specs.declared.typed_value.Value.{Value}
