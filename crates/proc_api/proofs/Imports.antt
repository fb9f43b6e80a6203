-- The names from outside that this crate's proofs use, in one place.
pub use Rattle.chunk_data.proofs.Places.{Changes-set}
pub use Rattle.chunk_data.specs.Places.{Changes}
pub use Rattle.port_word.proofs.Differences.{changed-by-both, changed-by-none, changed-by-one}
pub use Rattle.port_word.proofs.Imports.{get_or-eq_default, ◌&&◌, ◌++◌, ◌+◌, ◌-◌, ◌<◌, ◌==◌, ◌||◌, ◌∷◌, ◌≡◌, ◌≢◌, ◌≤◌}
pub use Rattle.port_word.proofs.Laws.{in_count-with_input, in_count-with_output, input_at-with_input, input_at-with_input-other, input_at-with_output, out_count-with_input, out_count-with_output, output_at-with_input, output_at-with_output, output_at-with_output-other}
pub use Rattle.port_word.specs.Names.{EachAction, IsSound, MaySee, PortCall, ShowsInFlags, TakesFirstAction, after_call, after_calls, after_close, after_finish, after_need, after_pull, after_push, after_see, close_call, closed, emptied, finish_call, need_call, new_input, new_picture, no_input, noted, noted_want, over_flags, pull_call, push_call, with_needed}
pub use Rattle.port_word.specs.declared.flags.Port.TheVariants.{Input, Output}
pub use Rattle.proc_api.specs.KindRows.{all_kinds, kind_place}
pub use Rattle.proc_api.specs.Names.{AllFit, AreAsKept, AreFitting, AreLimited, ArePortsOnce, BoxPicture, ChangedByCalls, ClosesFront, FinishesFront, FitsInput, FollowsKept, HasInputWire, HasMade, HasOutputWire, HasReadEnough, InputFollows, IsEdge, IsGraph, IsGraphSoFar, IsOver, IsPlaceOf, IsPulled, IsReadOut, IsWanting, KeepsMade, List, Lists, MakesTypes, MayBeInput, None, NotesEnd, Option, OutputFollows, OwnState, PortFlags, PulledOn, Reading, SameChunks, Some, StandStill, TakesOut, [], all_below, all_port_flags, chunk_rows, count_by, false, file_of, has_input, has_output, input_count, is_gapless, is_of, kept_ports, last_count, last_read, length, map, no_box, no_lists, no_notes, no_table, no_wire, output_count, own_of, pulled_at, pushed_at, raised, reading_of, reserved_edges, rows_pulled, taken_out, true, unworked_at, vec_capacity, with_pulled, with_pushed, ℕ}
pub use Rattle.proc_api.specs.Prelude.{Action, All, AllByRecursion, Bool, Close, ColumnType, Contains, Finish, Flags, InputPort, IsPermutation, Kind, Picture, Pull, Push, Reserve, Row, SortKey, Span, Spec, Table, Wire, can_push, cond, drop, filter, holds_data, is_lt, is_out_finished, list_all, list_any, min, nat_lt, no_flags, not, suc, take, zero}
pub use Rattle.query_model.proofs.AnswerLaws.{row_cmp_total}
pub use Rattle.query_model.proofs.Lists.{IsPermutation-same}
pub use Rattle.std.proofs.Common.{IsSortedBy, ap, append_assoc, ap₂, arith, get_or, inl, inr, refl, rules, subst, sym, ◌^◌, ◌∙◌, ◌⊎◌}
pub use Rattle.std.proofs.Math.Seq.{get_or-append_seam, split_at}
pub use Rattle.std.proofs.lemmas.Bool.{and_from, and_parts, both_ways, cases_Bool, cases_eq, cases_lt, cond_both, eq-eqb, eqb-true, false_from_ne_true, le-leb, le-ltb, lt-leb, lt-ltb, ltb-true, ne_eqb, not-true}
pub use Rattle.std.proofs.lemmas.Grind.{common_steps, flat_map-append}
pub use Rattle.std.proofs.lemmas.List.{append-nil, drop-take, get_or-append-add, get_or-append_right, get_or-map, get_or-replicate, get_or_append_left, get_or_default, length-append, length-drop, length-map, length-replicate, length-take, map-append, set_past, take-map, take_all, take_min, take_more}
pub use Rattle.std.proofs.lemmas.List.Elements.{All-contains, All-from_get_or, All-from_recursion, All-get_or, All-head, All-tail, recursion_from_All}
pub use Rattle.std.proofs.lemmas.List.Folds.{Any-from_list_any, list_any-append, list_any_at}
pub use Rattle.std.proofs.lemmas.List.Sorted.{All-permutation, IsPermutation-append_comm, IsPermutation-append_left, IsPermutation-append_right, IsPermutation-cons, IsPermutation-middle, IsPermutation-refl, IsPermutation-trans, ranks_by, sorted_far}
pub use Rattle.std.proofs.lemmas.List.Sums.{AllPass-from_list_all, count_by_more_no, get_or-le-sum_by, length-filter, list_all-from_AllPass, sum_by-cons, sum_by_push}
pub use Rattle.std.proofs.lemmas.Map.Steps.{le-length_from_below, length-le_from_distinct_below}
pub use Rattle.std.specs.Cmp.{IsStrictWeakOrder}
pub use Rattle.std.specs.List.{remove}
unfoldable pub use Rattle.port_word.specs.Names.{with_actions, with_input, with_output}
unfoldable pub use Rattle.proc_api.specs.Names.{all_rows, in_count, kept_input, kept_inputs, kept_output, kept_outputs, out_count, pushes_to, rank_at, total_rows, wire_at}
unfoldable pub use Rattle.proc_api.specs.Prelude.{input_at, output_at, row_cmp}
pub use Rattle.proc_api.specs.Clauses.{IsBlank, IsFresh}
pub use Rattle.proc_api.specs.Reserves.{AreReserves, AreStarting, IsAdded, StartsAs, behind_wires, holds_node, is_reserved, no_reserve}
pub use Rattle.std.specs.Prelude.{nat_le}
