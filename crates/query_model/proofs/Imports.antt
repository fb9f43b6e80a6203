-- The names from outside that this crate's proofs use, in one place.
pub use Rattle.chunk_data.proofs.Imports.{drop_all, drop_more, length-map, map-append, take_more}
pub use Rattle.chunk_data.proofs.Laws.{length-FitsTypes, same_plain-is}
pub use Rattle.chunk_data.specs.Values.{FitsType, FitsTypes, Row, Table, is_null, key_cmp, same_row, same_type, type_at, value_at, value_cmp, values_at}
pub use Rattle.query_model.specs.Names.{AggCall, AggOp, AreAdded, AreColumnsFrom, AreNumbersAlike, ArePicks, ArePlainItems, ArithOp, BadPlace, BothOrNone, Call, CanBePicked, CanHold, Checked, CheckedJoin, ColumnDecl, ColumnRef, Combine, CompareOp, Cond, CondOf, Database, EachWith, Expr, ExprOf, Grouping, HasItsArgument, HasNoCall, IsAnalysable, IsAnswer, IsChecked, IsCheckedJoin, IsGroupedOperand, IsGrouping, IsItem, IsNoCall, IsOrderedAnswer, IsPick, IsPlaced, IsPlacedCall, IsPlacedCond, IsPlacedItem, IsPlacedJoin, IsShape, IsTyped, IsTypedCall, IsTypedCond, IsTypedFilter, IsTypedGrouping, IsTypedOperand, IsTypedQuery, IsTypedShape, Item, ItemKind, Items, Join, KeyPair, NamePair, Operand, OrderKey, Query, Refusal, Schema, Shape, Span, added, agree, arith_type, answer_text, bad_field, both_spelled, call_of, call_type, calls_of, combine_of, counted, counts_added, database, distinct_rows, enough, exact, exact_sum, first_ungrouped, greater, greatest, group_types, grouped_by, groups, groups_or_default, is_call_item, is_text, is_uint, item_calls, item_names, joined_rows, key_place, least, lesser, limited, merge_of, merged_groups, name_or, number_type, numeral_below, operand_calls, operand_type, output_rows, pair_of, parts_rows, place_in, place_of, plain_name, plain_of, query_calls, result_type, rows_with, selected_rows, sort_key, spelled_value, state_calls, takes_argument, total, with_digit, operands_of, Formula, argument_form, cond_form, formula, operand_form, sides_in, ItemTree, QueryTree, item_tree, item_what, items_in, listed, query_tree, selection, ungrouped_in_items, from_types, has_null_test, is_null_operand, valid_values}
pub use Rattle.query_model.specs.Prelude.{Add, ColumnType, Count, Declared, Fields, Grouped, Int, Listed, Max, Min, Mul, Named, Paths, Plain, SortKey, Star, Sub, Sum, Text, UInt, Value, bytes_eq, codes, find, flat_map, is_some, nat_lt, not, option_map, slice_index_or, unsigned_abs, ⊤, Null}
pub use Rattle.query_model.specs.Refusals.{FromColumn, OperandTyping, agg_typing, ambiguous_column, arith_typing, bad_join_key, bad_order_key, bare_columns, call_typing, comparable, declared_column, first_name, first_of_all, fits_where, from_columns, is_call, is_grouped, is_typed, item_columns, item_typing, join_pairs, known_typing, means, meant, meant_type, not_grouped, not_keys, operand_columns, operand_typing, plain, same_column, star_name, table_columns, text_columns, too_wide, type_mismatch, typed, unfit, ungrouped_names, unknown_column, written, is_key_of, join_columns, refusals, types_of, output_names, null}
pub use Rattle.query_model.specs.Formulas.{OperandForm}
pub use Rattle.query_model.specs.Texts.{doubled, quoted, row_front, row_text, rows_text, separator, value_text}
pub use Rattle.std.proofs.Common.{Bool, Box, Equal, Global, Greater, IfOk, IsPermutation, IsSorted, Less, List, None, Option, Ordering, Some, [], ap, append-nil, append_assoc, ap₂, arith, cond, drop, false, filter, fold, get_or, get_or-append-add, inl, inr, is_eq, is_lt, length, length-append, length-take, lit<, map, negsuc, pos, refl, replicate, set, subst, suc, swap, sym, take, take_all, true, zero, ℕ, ℤ, ◌%◌, ◌&&◌, ◌*◌, ◌++◌, ◌+ℤ◌, ◌+◌, ◌-ℤ◌, ◌-◌, ◌<◌, ◌==◌, ◌^◌, ◌||◌, ◌∙◌, ◌∷◌, ◌≡◌, ◌≢◌, ◌≤◌, ◌⊎◌}
pub use Rattle.std.specs.Char.{is_ascii_digit}
pub use Rattle.std.proofs.lemmas.Option.{none-some, same_Some}
pub use Rattle.std.specs.Option.{option_and_then}
pub use Rattle.std.proofs.lemmas.Bool.{and_parts, both_ways, cond_both, not-true, or_parts}
pub use Rattle.std.proofs.lemmas.Cmp.{tied_itself}
pub use Rattle.std.proofs.lemmas.Grind.{flat_map-append, fold-append}
pub use Rattle.std.proofs.lemmas.Int.{SFits-int_wrap, int_rem_euclid_is, int_wrap-add_left, int_wrap-add_right, int_wrap_fits, ints, of_z-to_z, to_z-of_z, wrapping_add_is, wrapping_sub_is}
pub use Rattle.std.proofs.lemmas.List.{map-id, take-append-le}
pub use Rattle.std.proofs.lemmas.List.Elements.{All-append, All-cons, All-filter, All-head, All-map, All-nil, All-tail, All-weaker, filter-append}
pub use Rattle.std.proofs.lemmas.List.Folds.{list_all-append, list_all-map, list_any-append}
pub use Rattle.std.proofs.lemmas.List.Sorted.{IsPermutation-append, IsPermutation-append_comm, IsPermutation-append_left, IsPermutation-append_right, IsPermutation-cons, IsPermutation-keeps, IsPermutation-map, IsPermutation-refl, IsPermutation-sym, IsPermutation-trans, length_permutation}
pub use Rattle.std.specs.Cmp.{IsTotalOrder, int_cmp_total, nat_cmp_total, on_total, then_total}
pub use Rattle.std.specs.Cmp.Lexicographic.{lists_total, nat_list_cmp_total}
pub use Rattle.std.specs.FinMap.{IsAntisymmetric, int_cmp-IsAntisymmetric, nat_cmp-IsAntisymmetric, slice_cmp-IsAntisymmetric}
pub use Rattle.std.specs.Int.{cast_signed, cast_unsigned, int_rem_euclid}
pub use Rattle.std.specs.List.{All, AllByRecursion, join_with_byte, list_all, list_any}
pub use Rattle.std.specs.Ordering.{ordering_reverse}
pub use mir.Syntax.{w64}
unfoldable pub use Rattle.chunk_data.specs.Values.{row_cmp}
unfoldable pub use Rattle.query_model.specs.Names.{bad_line, bad_place, chosen, combined, cond_fits, cond_operands, count_up, distinct, expr_columns, expr_typing, lines_from, part_records, refusal_of, sides_of, spelled_row, type_of, with_digits, wrapped, wrapped_sum}
