-- The names from outside that this crate's proofs use, in one place.
pub use Rattle.chunk_data.proofs.Chunks.{written_back}
pub use Rattle.chunk_data.proofs.Imports.{Equal, Greater, Less, Ordering}
pub use Rattle.chunk_data.proofs.Nulls.{before_null, descending_values, length-values, no_null, nulls_tie}
pub use Rattle.chunk_data.proofs.Laws.{FitsTypes-at, length-FitsTypes, length-rows_of}
pub use Rattle.chunk_data.specs.Names.{AgreeOnKey, AreColumns, FitsType, FitsTypes, IsTable, Row, Table, append_each, is_null, key_cmp, column_type, or_null, type_at, row_at, rows_of, text_cmp, value_at, value_cmp, values}
pub use Rattle.chunk_data.specs.declared.typed_value.ColumnType.{ColumnType}
pub use Rattle.chunk_data.specs.declared.lists.Memory.{Memory}
pub use Rattle.chunk_data.specs.declared.typed_column.Column.{Column}
pub use Rattle.proc_api.proofs.Imports.{All, All-permutation, AllByRecursion, Contains, IsPermutation-append_comm, IsPermutation-append_left, IsPermutation-append_right, IsPermutation-middle, IsPermutation-refl, IsPermutation-trans, IsSortedBy, Picture, SortKey, in_count, input_at, list_all, ranks_by, row_cmp_total}
pub use Rattle.proc_api.proofs.Orders.{InOrder, every-append, every-back, every-contains, every-front, every-none, every-permuted, every-turned, every-weaker, order-back, order-cross, order-from_sorted, order-front, order-joined, ordered, ordered-order, ordered-same, rows-ordered, sorted-from_order}
pub use Rattle.proc_api.specs.Boxes.{InputHead}
pub use Rattle.proc_api.specs.kinds.MergeSorted.{is_ready_head}
pub use Rattle.proc_api.specs.Names.{AreInputsSorted, AreKeysWithin, AreMerged, AreSorted, FitsOrder, IsBeforeNone, IsSortOf, Lists, OwnState, all_rows, chunk_rows, idle_own, head_at, head_rows, no_lists}
pub use Rattle.proc_shell.proofs.Imports.{AreWantedOver, Begins, Leaves, Makes, OfferComes, Offers, Takes, WantsMore, is_in_finished, no-rows, with_chunk}
pub use Rattle.proc_shell.proofs.Through.{all-more, chunk-elsewhere, chunk-here, makes-nothing, one-more}
pub use Rattle.proc_shell.specs.declared.kernel.Offer.{Offer}
pub use Rattle.proc_shell.specs.declared.kernel.Offer.TheVariants.{Rows, Wants}
pub use Rattle.query_model.proofs.Imports.{IfOk, Int, IsPermutation-map, IsPermutation-sym, Null, Text, UInt, Value, ints, length_permutation, tied_itself}
pub use Rattle.query_model.proofs.Lists.{map-map}
pub use Rattle.query_model.proofs.ValueOrder.{value_cmp_total}
pub use Rattle.query_model.specs.declared.processor_spec.SortSpec.{SortSpec}
pub use Rattle.sort_procs.specs.Heads.{AreBlank, AreRanked, AreUsedFrom, GoesFirst, HasRows, IsFirstBut, IsFirstHead, IsMoved, IsRanked, IsRowRun, IsRunBefore, NotesEnds, at, comes_before, first_row, goes_by, head_of, heads_of, is_over_at, is_ready, is_used, next_rows, no_head}
pub use Rattle.sort_procs.specs.Merging.{Merges, MergesSome, is_open_at, merging_own}
pub use Rattle.sort_procs.specs.Ranks.{AreRanks, HasRanks, HasValueRank, IsKeyRank, IsRank, IsSplit, PutsFront, PutsMore, bytes_told, digit, in_direction, is_exact, is_exact_value, is_ranked_before, key_rank, keys_left, keys_tied, last_rank, null_rank, place_cmp, ranked_cmp, ranked_place, rows_at, value_behind, value_rank}
pub use Rattle.sort_procs.specs.Sorted.{sorting_own_of}
pub use Rattle.sort_procs.specs.Sorting.{PutsInOrder, any_order, rows_left, sorting_own}
pub use Rattle.sort_procs.specs.declared.heads.Head.{Head}
pub use Rattle.sort_procs.specs.declared.ranks.Ranked.{Ranked}
pub use Rattle.std.proofs.Math.Nat.{add-mul-mod_self_right, min-eq_left, min-eq_right, min-le_left, min-le_right, mul-le-mul_right, mul-suc, suc-mul}
pub use Rattle.std.proofs.Math.Seq.{drop-append_seam, drop-cons, get_or-append_seam, take-add, take-append_seam}
pub use Rattle.std.proofs.lemmas.Grind.{common_steps}
pub use Rattle.std.proofs.lemmas.Bool.{and_from, and_parts, cases_eq, cases_lt, cond_both, le-leb, le-ltb, leb-false, leb-true, lt-leb, lt-ltb, ltb-true, not-true, or_left, or_right}
pub use Rattle.std.proofs.lemmas.Fn.{always_returns_same}
pub use Rattle.std.proofs.lemmas.List.{append-nil, drop-drop, drop_all, get_or-map, get_or-set_other, get_or-set_same, get_or_past, get_or_read, length-append, length-drop, length-map, length-set, length-take, map-append, map-set, nil_from_length, get_or-drop, get_or-take, get_or_append_left, get_or_default, set-get_or, set-set, take-append-drop, take_all, take_more}
pub use Rattle.std.proofs.lemmas.List.Elements.{All-append, All-cons, All-drop, All-map, All-take, recursion_from_All, Contains-append_left, Contains-append_right}
pub use Rattle.std.proofs.lemmas.List.Folds.{list_all-map}
pub use Rattle.std.specs.Cmp.{IsStrictWeakOrder, IsTotalOrder, bool_cmp_total, int_cmp_is, nat_cmp_total, on_total, then_total}
pub use Rattle.std.specs.Ordering.{bool_cmp, int_cmp, is_lt, nat_cmp, ordering_reverse, ordering_then}
unfoldable pub use Rattle.query_model.proofs.Imports.{count_up, row_cmp}
unfoldable pub use Rattle.sort_procs.specs.Ranks.{AreBytes, byte_weight, text_rank}
