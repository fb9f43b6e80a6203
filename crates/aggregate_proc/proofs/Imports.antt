-- The names from outside that this crate's proofs use, in one place.
pub use Rattle.chunk_data.proofs.Laws.{AreLong-made, rows_of-made}
pub use Rattle.key_codes.proofs.KeyLaws.{codes-keys, places-keys}
pub use Rattle.proc_api.proofs.Orders.{every-append}
pub use Rattle.proc_api.specs.Names.{FitsGroups, Reading, idle_own}
pub use Rattle.proc_api.specs.SpecContracts.{NotesEnd as EndIsNoted}
pub use Rattle.std.proofs.Common.{Bool, IfOk, IfSome, IsPermutation, List, None, Option, SFits, Some, [], ap, append_assoc, ap₂, arith, cond, drop, drop-drop, false, filter, fold, get_or, inl, inr, length, map, max, min, not, of_z, pos, refl, rules, set, subst, suc, sym, take, to_z, true, w64, zero, ℕ, ℤ, ◌%◌, ◌++◌, ◌+ℤ◌, ◌+◌, ◌-◌, ◌<◌, ◌^◌, ◌||◌, ◌∙◌, ◌∷◌, ◌≡◌, ◌≢◌, ◌≤◌, ◌⊎◌}
pub use Rattle.std.proofs.lemmas.Grind.{common_steps}
pub use denote.Enum.Bare.{same_true, true_same}
pub use Rattle.aggregate_proc.specs.Cells.{FitsColumn, can_fold, int_value, text_value, uint_value}
pub use Rattle.aggregate_proc.specs.Folds.{FoldColumn, earlier, folded, next_folded, put_all, put_folded, with_rows}
pub use Rattle.aggregate_proc.specs.GroupKinds.{AreSound, GroupingView, IsGroupPhase, IsGroupState, IsGroupTableFor, IsNextOfGroups, NotesGroupsEnd, aggregate_spec, call_foldings, call_types, calls_for, empty_column, fold_for, fold_of, foldings_for, gathering_own, given_for, giving_own, grouping_own, groups_for, open_for, phase_own, state_in, types_for, whole_for, worked_rows}
pub use Rattle.aggregate_proc.specs.Prelude.{AggOp, AreGrouped, GroupSpec, Offer, SeenKeys, StateCall, rows_of}
pub use Rattle.aggregate_proc.specs.Tables.{AreCalls, Folding, GroupTableView, GroupsMore, HasKeyFirst, IsGroupTable, IsGroupTableOf, argument_at, fold_types, folded_at, folding_of, foldings_of, group_column, group_keys, group_table_rows, group_table_view, key_foldings, key_of}
pub use Rattle.aggregate_proc.specs.declared.fold.Fold.{Fold}
pub use Rattle.aggregate_proc.specs.declared.phase.Phase.{Phase}
pub use Rattle.chunk_data.proofs.ColumnLists.{changed, changed_all, changed_more, get_or-changed}
pub use Rattle.chunk_data.proofs.Imports.{AreLong, adds, column_type, row_at, values}
pub use Rattle.chunk_data.proofs.Rows.{length-rows_of}
pub use Rattle.chunk_data.specs.declared.typed_column.Column.{Column}
pub use Rattle.indexmap.specs.IndexSet.{insert_key}
pub use Rattle.key_codes.specs.Keys.{AreKeyValues, HasKey as HasKeyAt, IsSeenFor, codes_in, first_key_column, key_at, key_code, places_from, plain_types_at, row_code, same_code}
pub use Rattle.proc_api.specs.Grouped.{argument_types, calls_from, default_states, merged_states, spec_group_types}
pub use Rattle.proc_shell.proofs.Imports.{ArePortsOf, FitsInput, HasNotedEnd, IsAtMost, IsPulled, Lists, MakesTypes, OwnState, Picture, Spec, cases_eq, cases_lt, chunk_rows, eqb-true, in_count, input_at, is_in_finished, most_rows, no-rows, no_lists, out_count}
pub use Rattle.proc_shell.proofs.Through.{all-more, drops-misfit, makes-nothing, rows-here}
pub use Rattle.proc_shell.specs.Kernels.{AreInputsOver, Begins, Makes, Means, OfferComes, Offers, Reads, Takes, unread, with_chunk}
pub use Rattle.query_model.proofs.Aggregates.{combined-merge, greater-comm}
pub use Rattle.query_model.proofs.Distinct.{IsSame}
pub use Rattle.query_model.proofs.Imports.{Call, ColumnType, Combine, FitsTypes, IsPermutation-append_left, IsPermutation-refl, IsPermutation-trans, Row, Table, Text, UInt, Value, added, both_ways, call_of, combine_of, counted, counts_added, distinct_rows, exact_sum, flat_map-append, greatest, grouped_by, groups_or_default, is_uint, least, length-FitsTypes, length_permutation, list_any-append, merge_of, merged_groups, rows_with, same_row, state_calls, value_at, value_cmp, values_at}
pub use Rattle.query_model.proofs.Lists.{IsPermutation-same, map-map}
pub use Rattle.query_model.proofs.Merge.{IsPermutation-grouped_by, merged_groups_is}
pub use Rattle.query_model.proofs.ValueOrder.{same_row_is}
pub use Rattle.query_model.specs.Prelude.{default_value, text_cmp}
pub use Rattle.std.proofs.Math.Facts.{Fits-of_z, to_z-of_z}
pub use Rattle.std.proofs.Math.Seq.{take-suc}
pub use Rattle.std.proofs.lemmas.Int.{int_wrap_fits, ints, wrapping_add_onto}
pub use Rattle.std.proofs.lemmas.List.{append-nil, at_drop_all, at_drop_more, drop_all, drop_at, get_or-map, get_or_append_left, get_or_default, length-append, length-drop, length-map, length-take, map-append, map-id, nil_from_length, set-get_or, take-append-drop, take_all, take_at}
pub use Rattle.std.proofs.lemmas.List.Elements.{filter-append, recursion_from_All}
pub use Rattle.std.proofs.lemmas.Map.Views.{any-filter_same}
pub use Rattle.std.proofs.lemmas.Nat.{from_le_bytes-to_le_bytes_8}
pub use Rattle.std.proofs.lemmas.Slice.Eq.{slice_eq-Decides}
pub use Rattle.std.specs.Cmp.{nat_cmp_is}
pub use Rattle.std.specs.Cmp.Lexicographic.{nat_list_eq_equiv, same_text}
pub use Rattle.std.specs.Int.{cast_signed, cast_unsigned, from_le_bytes, int_max, int_min, int_wrap, to_le_bytes}
pub use Rattle.std.specs.List.{All, AllByRecursion, list_all, list_any, position_or_len}
pub use Rattle.std.specs.Option.{option_map}
pub use Rattle.std.specs.Ordering.{int_cmp, nat_cmp}
unfoldable pub use Rattle.proc_api.specs.Histories.{all_rows}
unfoldable pub use Rattle.query_model.specs.Names.{chosen, combined, count_up, distinct, value_of, wrapped, wrapped_sum}
