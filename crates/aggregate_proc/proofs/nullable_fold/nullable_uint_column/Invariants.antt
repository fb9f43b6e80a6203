use Rattle.aggregate_proc.proofs.Imports.{column_type, uint_value, map, take, values, ◌≡◌}
use Rattle.chunk_data.specs.declared.typed_value.ColumnType.TheVariants as column
use Rattle.aggregate_proc.proofs.nullable_fold.nullable_uint_column.Given as goal

abbrev pub invariant-loop-i : goal.invariant-loop-i
invariant-loop-i l =
    (column_type l.column ≡ column.NullUInt64)
    × (values l.column ≡ map uint_value (take l.i l.states))
