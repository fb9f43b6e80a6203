-- The names of this crate's definitions in one place: who needs several of its files imports from
-- here.
pub use Rattle.chunk_data.specs.Values.{is_text, same_type, type_at}
pub use Rattle.query_model.specs.Analysis.{HasItsArgument, HasNoCall, IsAnalysable, IsDueRefusal, IsNoCall, IsTypedFilter, IsTypedGrouping, IsTypedQuery, IsTypedShape, MayBeGroupOperand, from_types, takes_argument}
pub use Rattle.query_model.specs.Answers.{IsAnswer, IsOrderedAnswer, enough, item_row, limited, output_rows, selected_rows}
pub use Rattle.query_model.specs.Checks.{AreColumnsFrom, ArePicks, ArePlainItems, BothOrNone, EachWith, IsChecked, IsCheckedJoin, IsGroupedOperand, IsGrouping, IsPick, IsPlaced, IsPlacedCall, IsPlacedCond, IsPlacedItem, IsShape, calls_of, item_calls, listed, operands_of, pair_of, place_of, query_calls, use_of}
pub use Rattle.query_model.specs.Database.{AllPartsValid, Files, IsValidPart, IsValidUsed, UsedPart, bad_line_in, bad_place_in, column_types, database, declared_table, file_bytes, join_use, numbered_parts, part_bad_place, part_paths, part_rows, parts_declared, parts_used, rows_in, used_parts, used_tables}
pub use Rattle.query_model.specs.Expressions.{Cond, Expr, arith_type, arith_value, compared, exact_result, gives_uint, holds, is_uint_column, number_of, number_type, passes, plain_value, result_type, rows_where, Truth, comparison, is_true, truth_and, truth_not, truth_or}
pub use Rattle.query_model.specs.Fields.{both_spelled, numeral_below, spelled_int, spelled_value, is_null_text, null_text}
pub use Rattle.query_model.specs.Flow.{flow, groups_tested, if_grouped, if_ordered, if_plain, rows_joined, rows_tested}
pub use Rattle.query_model.specs.Formulas.{Formula, argument_form, arith, column, cond_form, formula, number, operand_form, sides_in}
pub use Rattle.query_model.specs.Groups.{Call, Combine, added, call_of, call_type, combine_of, counted, counts_added, distinct_rows, exact_sum, greater, greatest, grouped_by, groups, groups_or_default, least, lesser, merge_of, merged_groups, rows_with, state_calls, valid_values}
pub use Rattle.query_model.specs.Kinds.{kind_of}
pub use Rattle.query_model.specs.Need.{having_need, if_declared, if_filtered, if_joined, if_limited, if_unordered, list_sources_need, query_boxes, part_sources_need, sorts_need, table_need, tables_need}
pub use Rattle.query_model.specs.Numbers.{exact, is_uint}
pub use Rattle.query_model.specs.Numerals.{with_digit}
pub use Rattle.query_model.specs.Parts.{bad_field, parts_rows, row_then}
pub use Rattle.query_model.specs.Placing.{AreAdded, CanBePicked, IsPlacedJoin, as_typing, columns_in, first_ungrouped, key_place, number_value, place_by, place_in, sort_key}
pub use Rattle.query_model.specs.Prelude.{AggCall, AggOp, ArithOp, BadPlace, Checked, CheckedJoin, ColumnDecl, ColumnRef, CompareOp, CondOf, ExprOf, Grouping, Item, ItemKind, Items, Join, KeyPair, NamePair, Number, Operand, OrderKey, PartsDecl, Query, Refusal, Schema, Shape, Span, TableDecl}
pub use Rattle.query_model.specs.Refusals.{FromColumn, agg_typing, argument_columns, arith_typing, bare_columns, call_typing, calls_in, columns_if, comparable, first_name, first_of_all, fits_where, from_columns, is_call, is_call_item, is_grouped, is_join_pair, is_typed, item_columns, item_typing, item_names, join_pairs, join_tables, joins, known_typing, meant, meant_type, name_or, not_keys, operand_calls, operand_typing, output_names, plain_name, query_tables, same_column, same_known_type, star_name, table_columns, text_columns, total, unknown_table, written, ambiguous_column, bad_join_key, bad_order_key, bare_names, is_key_of, join_columns, not_grouped, pairs_fit, refusals, too_wide, tree_refusal, type_mismatch, types_fit, types_of, ungrouped_in_items, ungrouped_names, unknown_column, has_null_test}
pub use Rattle.query_model.specs.Sources.{Database, agree, filtered_rows, joined_rows, joined_table, numbers, source_rows, source_table, used_table}
pub use Rattle.query_model.specs.Texts.{answer_text, doubled, quoted, row_text, rows_text, separator, value_text}
pub use Rattle.query_model.specs.Trees.{ItemTree, QueryTree, item_tree, item_what, items_in, query_tree, selection}
pub use Rattle.query_model.specs.Typing.{AreAlike, AreNumbersAlike, CanHold, can_hold, IsItem, IsTyped, IsTypedCall, IsTypedCond, IsTypedOperand, group_types, operand_type, plain_of, shape_types, AreComparable, is_null_operand}
unfoldable pub use Rattle.query_model.specs.Checks.{cond_operands}
unfoldable pub use Rattle.query_model.specs.Expressions.{operand_value, truth_of, type_of, value_of}
unfoldable pub use Rattle.query_model.specs.Fields.{spelled_row}
unfoldable pub use Rattle.query_model.specs.Formulas.{sides_of}
unfoldable pub use Rattle.query_model.specs.Groups.{chosen, combined, distinct, wrapped_sum}
unfoldable pub use Rattle.query_model.specs.ListFiles.{bad_line, lines_from}
unfoldable pub use Rattle.query_model.specs.Numbers.{wrapped}
unfoldable pub use Rattle.query_model.specs.Numerals.{with_digits}
unfoldable pub use Rattle.query_model.specs.Parts.{bad_column, bad_place, good_rows, part_records}
unfoldable pub use Rattle.query_model.specs.Refusals.{cond_fits, expr_columns, expr_typing, refusal_of}
unfoldable pub use Rattle.query_model.specs.Sources.{count_up}
