-- The names from outside that this crate's proofs use, in one place.
pub use Rattle.chunk_data.specs.Names.{AreColumns, AreEnds, AreLong, Column, ColumnType, FitsType, FitsTypes, IsTable, PlainType, Row, SortKey, Table, Value, adds, append_each, column_type, column_validity, cut, is_null, is_nullable, kept, key_cmp, nullable_if, with_nulls, or_null, plain_column_type, plain_type, plain_values, row_at, rows_of, same_plain, stored_values, value_at, value_cmp, value_range, values}
pub use Rattle.chunk_data.specs.declared.plain_column.PlainColumn.TheVariants.{Int64, Text, UInt64}
pub use Rattle.chunk_data.specs.declared.plain_column.PlainColumn.{PlainColumn}
pub use Rattle.chunk_data.specs.declared.typed_value.Value.TheVariants.{Null}
pub use Rattle.std.proofs.Common.{Bool, List, [], add-one, add-zero, ap, arith, cond, drop, false, get_or, inl, inr, length, length-append, map, pos, refl, replicate, rules, set, slice_index_or, subst, suc, sym, take, true, zero, ℕ, ◌++◌, ◌+◌, ◌-◌, ◌<◌, ◌==◌, ◌∙◌, ◌∷◌, ◌≡◌, ◌≢◌, ◌≤◌}
pub use Rattle.std.proofs.Math.Seq.{get_or-append_right}
pub use Rattle.std.proofs.lemmas.Bool.{cases_lt, eqb-true, false_from_ne_true, false≢true}
pub use Rattle.std.proofs.lemmas.List.Recursion.{is_count_by}
pub use Rattle.std.proofs.lemmas.List.Sums.{sum_by-cons}
pub use Rattle.std.proofs.lemmas.List.{append-nil, drop-append-le, drop-drop, drop-map, drop-replicate, drop-set-lt, drop-take, drop_all, drop_at, drop_more, get_or-drop, get_or-map, get_or-replicate, get_or-set_other, get_or-set_same, get_or-take, get_or_append_left, get_or_default, get_or_read, length-drop, length-map, length-replicate, length-set, length-take, length-take-le, map-append, map-set, nil_from_length, replicate-append-replicate, set-get_or, take-append-le, take-map, take-replicate, take-set, take-take, take_all, take_at, take_more, take_more_set}
pub use Rattle.std.proofs.lemmas.Simd.{get_or-zip2, length-zip2}
pub use Rattle.std.proofs.lemmas.Slice.{drop-append-drop}
pub use Rattle.std.specs.List.{All, copy_within, count_by, slice_range}
pub use Rattle.std.specs.Option.{option_map}
pub use Rattle.std.specs.Ordering.{ordering_reverse, ordering_then}
pub use Rattle.std.specs.Prelude.{IfSome, None, Option, Some, is_some}
pub use Rattle.std.specs.Simd.Lanes.{zip2}
pub use Rattle.std.specs.Vec.{vec_capacity, vec_len}
pub use Rattle.std.specs.declared.cmp.Ordering.TheVariants.{Equal, Greater, Less}
pub use Rattle.std.specs.declared.cmp.Ordering.{Ordering}
pub use mir.Val.{bool_byte}
unfoldable pub use Rattle.chunk_data.specs.Names.{row_cmp}
