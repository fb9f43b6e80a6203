-- The names from outside that this crate's proofs use, in one place.
pub use Rattle.chunk_data.proofs.Places.{AreOnce-append, AreOnce-head, AreOnce-tail, count_by-append, count_by-cons, count_by-none}
pub use Rattle.chunk_data.specs.Places.{AreOnce}
pub use Rattle.exec_laws.specs.Births.{growth_list}
pub use Rattle.proc_api.specs.KindRows.{all_kinds, grown_kind}
pub use Rattle.exec_laws.specs.Growths.{end_node, end_rank, form_kind, has_gap, has_large_port, has_wrong_end, is_blank_of, is_named, is_out_of_order, is_port_taken, lacks_blank}
pub use Rattle.exec_laws.specs.Names.{AreAllBorn, AreBirths, AsksToGrow, Birth, BoxHolds, CellPicture, ContradictsStatus, EdgeState, EdgeEndHolds, EndSettled, GivenBack, GivesBox, HasEdge, HasFinished, HasForm, HoldsGraph, InputHolds, IsBirth, IsBorn, IsEnd, IsNothingDue, IsNodeOver, IsPort, IsStuck, KeepsBox, Left, MarkHolds, MarkTells, NodeHolds, NodeStatus, OutputHolds, Running, Snapshot, StaysBox, StuckNode, SupportsStatus, TakeBlanks, NodeTurns, ViewHolds, action_port, all_places, births_of, blanks_of, born_wires, boxes_of, cell_at, form_at, grown_ranks, grown_wires, growth_flaw, growths_of, is_place, is_resting, is_waiting, kept_flags, kept_growths, new_wire, new_wires, no_cell, number_at, peer, places_for, port_edge, reserve_of, set_ranks, state_after, stuck_from}
pub use Rattle.exec_laws.specs.Prelude.{Action, ArePortsOf, Blank, GrowthForm, HasPort, Input, InputAllows, IsBlank, MayGrow, Me, New, NewEdge, Output, OutputAllows, Port, Reserve, Rests, SpecForm, Status, WaitsForData, WaitsForRoom, Who, WorkFault, after_grow, chunk_after, chunk_step, input_after, input_allows, input_step, is_me, output_allows, output_step, port_flags, same_kind}
pub use Rattle.port_word.proofs.Differences.{PictureHolds, difference-calls}
pub use Rattle.port_word.proofs.Fitting.{sound-grow}
pub use Rattle.port_word.proofs.Laws.{in_count-with_actions, out_count-with_actions}
pub use Rattle.proc_api.proofs.Follows.{as-kept-noted, follows-new, follows-noted, follows-same, position-still}
pub use Rattle.proc_api.proofs.Graphs.{edge-added, few-inputs, few-outputs, input-below-count, input-of-count, is-gapless, output-below-count, output-of-count, wire-input, wire-output}
pub use Rattle.proc_api.proofs.Imports.{All, All-from_get_or, All-get_or, AllByRecursion, Bool, BoxPicture, ChangedByCalls, EachAction, Flags, FollowsKept, HasInputWire, HasOutputWire, InputFollows, InputPort, IsEdge, IsGraph, IsGraphSoFar, IsSound, Kind, List, Lists, None, Option, Picture, PortCall, ShowsInFlags, Some, Spec, Table, Wire, [], after_call, after_calls, all_port_flags, and_parts, ap, append-nil, append_assoc, arith, both_ways, cases_Bool, cases_eq, cases_lt, changed-by-both, cond, count_by, drop, eq-eqb, eqb-true, false, false_from_ne_true, filter, flat_map-append, get_or, get_or-append_seam, get_or-eq_default, get_or-le-sum_by, get_or-replicate, get_or_append_left, has_input, has_output, holds_data, in_count-with_input, in_count-with_output, inl, input_count, inr, is_gapless, is_out_finished, le-ltb, length, length-append, length-map, length-replicate, list_any, list_any_at, lt-ltb, ltb-true, map, map-append, nat_lt, ne_eqb, new_input, new_picture, no_box, no_flags, no_input, no_wire, not, out_count-with_input, out_count-with_output, output_count, over_flags, pushed_at, refl, rules, subst, suc, sum_by-cons, sym, taken_out, true, with_pulled, with_pushed, zero, ℕ, ◌&&◌, ◌++◌, ◌+◌, ◌-◌, ◌<◌, ◌==◌, ◌||◌, ◌∙◌, ◌∷◌, ◌≡◌, ◌≢◌, ◌≤◌, ◌⊎◌}
pub use Rattle.proc_api.proofs.KeptFlags.{kept_input-of, kept_inputs-of, kept_output-of, kept_outputs-of}
pub use Rattle.proc_api.specs.Names.{IsListGrowth, list_growth, listed_edge, listed_edges, listed_parts, option_map}
pub use Rattle.proc_api.specs.KindContract.{grown_inputs}
pub use Rattle.proc_api.specs.Prelude.{Files, PartSpec, paths_in}
pub use Rattle.std.proofs.Common.{IsSome, IsTrue, flat_map, get_or-set_other, get_or-set_same, is_some, length-set, replicate, set, sum_by}
pub use Rattle.std.proofs.Math.Seq.{get_or-append_right}
pub use Rattle.std.proofs.lemmas.Bool.{or_left, or_parts, or_right}
pub use Rattle.std.proofs.lemmas.List.Folds.{list_any-append, list_any_none}
pub use Rattle.std.proofs.lemmas.List.FromFn.{get_or-map-range_with_len, get_or-range_with_len, length-map-range_with_len, length-range_with_len, map-range_with_len_more}
pub use Rattle.std.proofs.lemmas.List.Sums.{sum_by-append}
pub use Rattle.std.specs.List.{find, range_with_len}
unfoldable pub use Rattle.exec_laws.specs.Names.{box_at}
unfoldable pub use Rattle.exec_laws.specs.Prelude.{in_count, input_at, kept_input, kept_inputs, kept_output, kept_outputs, out_count, output_at, pushes_to, rank_at, wire_at, with_actions, with_input, with_output}
