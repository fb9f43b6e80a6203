-- The names from outside that this crate's proofs use, in one place.
pub use Rattle.chunk_data.proofs.Imports.{get_or_default, column_type, values}
pub use Rattle.chunk_data.proofs.Laws.{AreLong_of_made, rows_of_made}
pub use Rattle.chunk_data.proofs.Nulls.{length-values, no_null, nullable_if_of, nullable_of_nullable_if, plain_of_nullable_if}
pub use Rattle.chunk_data.specs.Names.{column_validity, is_null, is_nullable, is_plain_uint, nullable_if, with_nulls, or_null, plain_type, slice_type, slice_values, stored_values}
pub use Rattle.chunk_data.specs.declared.plain_column.PlainSlice.{PlainSlice}
pub use Rattle.chunk_data.specs.declared.typed_column.Column.{Column}
pub use Rattle.expr_eval.specs.Results.{IsColumnMade, flipped, residue, swap_if, and_valid, both_or_either, compares, has_truth, opposite, opposite_unless, result_plain}
pub use Rattle.query_model.proofs.Imports.{ColumnType, Int, IsItem, Row, Table, Text, UInt, Value, int_cmp_total, map-append, ordering_reverse, take_all, to_z-of_z, value_at, Null}
pub use Rattle.query_model.proofs.TypedQueries.{type_before, type_behind, type_of_number}
pub use Rattle.query_model.specs.Names.{AreAlike, CanHold, Expr, arith_type, arith_value, compared, exact_result, gives_uint, is_text, number_of, number_type, passes, plain_of, plain_value, result_type, comparison, is_null_operand, truth_and, truth_not, truth_or, is_true}
pub use Rattle.query_model.specs.Prelude.{int_cmp, text_cmp}
pub use Rattle.query_model.specs.declared.query.ArithOp.{ArithOp}
pub use Rattle.query_model.specs.declared.query.ArithOp.TheVariants.{Sub}
pub use Rattle.query_model.specs.declared.query.CompareOp.{CompareOp}
pub use Rattle.std.proofs.Common.{Bool, List, None, Option, Some, [], add-one, ap, arith, cond, false, get_or, if◌then◌else◌, length, map, not, pos, refl, replicate, rules, set, subst, suc, sym, take, true, zero, ℕ, ℤ, ◌&&◌, ◌++◌, ◌+◌, ◌-ℤ◌, ◌<◌, ◌||◌, ◌∙◌, ◌∷◌, ◌≡◌, ◌≤◌, ap₂}
pub use Rattle.std.proofs.lemmas.Cmp.{nat_list_cmp_total}
pub use Rattle.std.proofs.lemmas.List.Elements.{All-more}
pub use Rattle.std.specs.Int.{int_wrap, w64}
pub use Rattle.chunk_data.specs.declared.typed_value.PlainType.{PlainType}
pub use Rattle.std.specs.List.{All, zip}
pub use Rattle.std.specs.Option.{option_map}
pub use Rattle.std.specs.Prelude.{is_some}
pub use Rattle.std.proofs.lemmas.Simd.{length-zip2}
pub use Rattle.std.proofs.lemmas.List.{length-map}
pub use Rattle.std.specs.Simd.Lanes.{zip2}
unfoldable pub use Rattle.query_model.specs.Names.{operand_value, truth_of, type_of, value_of, wrapped}
pub use Rattle.std.proofs.lemmas.Result.{IfOk-weaker}
