-- The names from outside that this crate's proofs use, in one place.
pub use Rattle.core_laws.specs.Laws.{Content, EdgeHolds, Laws}
pub use Rattle.core_laws.specs.Start.{fits, start, start_node}
pub use Rattle.core_laws.specs.Steps.{StepAnswer, acted, acting_end, after, allows, answer, bit_at_end, born, changed, chunks_after, is_held_end, is_updated, learned, learning, left, looked, may, may_act, node_after, peer_in, port_after, spent, taken, telling, tells, with_bit, wiring, updated, is_idle, marked_by, marked_peer, seen, wired}
pub use Rattle.core_laws.specs.Views.{adding, edges_of, end_of, flags_at, has, is_end, is_set, is_unborn, knows, names, no_node, no_port, node_at, node_of, port_at, port_of, put_node, put_port, seeing, wire_ok, without}
pub use Rattle.port_word.specs.Pictures.{no_flags, no_wire}
pub use Rattle.exec_table.specs.CoreNames.{Act, AreEdgesOnce, Chunk, Close, CoreState, Finish, Flags, NodeState, PortState, Pull, Push, Sizes, Step, Unwant, Want, Wire}
pub use Rattle.exec_table.specs.Words.{edge_count, first_word, flags_word, found_by, node_place, node_words, place, port_place, port_words, wire_of, wire_place, wire_word, wire_words, words_of, wire_in}
pub use Rattle.exec_table.specs.Boards.{Begun, Board, Born, EdgeEnd, NodeView, Over, Stage, View, Holds, Lane, LaneHolds, StageHolds, board_after, end_at, end_for, end_view, fits_end, home_of, lane_at, lanes_after, looked_at, no_end, no_lane, node_view, chunk_numbers, pulled_from, pushed_to, stage_at, turn_at}
pub use Rattle.exec_table.specs.Rule.{Distinct, IsSeen, Sat, Shown, ViewFits, aiming, finding, first_view, no_view, one, start_board, start_stage, unstopped}
pub use Rattle.exec_table.specs.Ready.{Did, can_act, end_of_view, front, in_hand, is_at_hand, is_empty_hand, is_full_hand, ready, slot_act}
pub use Rattle.std.proofs.Common.{Bool, List, None, Option, Some, [], ap, append-nil, arith, bit_and, bit_or, bit_xor, cond, drop, eqb, false, get_or, inl, inr, is_none, is_some, length, map, not, refl, rules, set, subst, suc, sym, take, true, zero, ℕ, ⊎_elim, ◌&&◌, ◌++◌, ◌+◌, ◌-◌, ◌%◌, ◌<◌, ◌^◌, ◌||◌, ◌∙◌, ◌∷◌, ◌≡◌, ◌≢◌, ◌≤◌, ◌⊎◌, append_assoc, replicate, vec_capacity}
pub use Rattle.std.proofs.lemmas.Bool.{and_from, and_parts, both_ways, eq-eqb, le-leb, lt-leb, lt-ltb, cases_Bool, cases_eq, cases_lt, cond_both, eqb-true, ne_eqb, or_cases, or_right}
pub use Rattle.std.proofs.lemmas.List.{get_or-append_right, get_or-set_other, get_or-set_same, get_or_append_left, get_or_default, set-append_left, get_or_past, length-append, length-set, length-map, map-append, map-id, map-set, set-get_or, ext_get_or, length-take-le, length_push, get_or-map, drop_more, take_all, take_more}
pub use Rattle.std.proofs.lemmas.List.FromFn.{get_or-map-range_with_len, length-map-range_with_len, map-range_with_len_more}
pub use Rattle.std.specs.List.{filter, range_with_len}
pub use Rattle.std.proofs.lemmas.Nat.{or_comm, or_shifted}
pub use Rattle.std.proofs.lemmas.Nat.Bits.{bit_at_or, same_from_bits}
pub use Rattle.std.proofs.Math.Seq.{map-set_same}
pub use prog.Atomic.{either}
pub use lib.ListN.{get_elem?}
pub use mathlib.Core.Option.{none, some, some-injective, some-ne-none}
pub use Rattle.atomic_table.specs.Table.{Allows, Joins, Seen, Splits, State, Valid, carried_after, homes_after, keeps, opening, rest, stepped, takes, turned, Enters}
pub use Rattle.atomic_table.proofs.Lists.{at_index, at_set, at_snoc, at_map, drop_at}
pub use Rattle.core_laws.proofs.Kept.{laws-kept, marks-of, pending-most, sizes-kept, some-pending}
pub use Rattle.core_laws.proofs.Bits.{EndOf, an-end, end-of, or-more, or-other, flip-lone}
pub use Rattle.core_laws.proofs.Lists.{edges-seeing, has-filter, has-last, once-cons, once-filter, once-head, once-last, once-tail}
pub use Rattle.core_laws.proofs.Starts.{start-laws, learned-start, ports-length}
pub use Rattle.std.specs.VecDeque.{deque_capacity}
pub use Rattle.atomic_table.specs.declared.shared.Seat.{Seat}
pub use Rattle.exec_table.specs.Closings.{IsFinal}
pub use Rattle.exec_table.specs.Made.{just_first, rest_of, without_first_node, IsOpen}
pub use Rattle.exec_table.specs.Plays.{Worked, next_worker, with_worker, first_or_none}
pub use Rattle.exec_table.specs.Seats.{ExecTable, Identity, NodeSeat, WorkerSeat, IsSeatOf, IsWorkerOf, WorkerDoes, identity_of, sizes_in, seen_in_word, view, HandHolds, MakesStep, Slots, edges_out, slots, slot_in, IsInHand, holds_chunk, slot_of, push_of}
pub use Rattle.exec_table.specs.Surveys.{AreAll, EachSeat, HasAll, IsBack, IsLent, Surveyed, joined_views, noted_word, noting, views}
pub use Rattle.std.proofs.Math.Nat.{mod-eq_of_lt}
pub use Rattle.std.specs.Slots.{slots_filled, slots_items, slots_len, slots_counts}
pub use Rattle.std.specs.Slots.Ownership.{Filled}
pub use mathlib.Core.Bool.{beq}
pub use mathlib.Core.Logic.{dite}
pub use native.Mathlib.Decide.{ℕ_discrete}
