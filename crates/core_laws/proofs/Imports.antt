-- The names from outside that this crate's proofs use, in one place.
pub use Rattle.chunk_data.proofs.Places.{AreOnce-append, AreOnce-head, AreOnce-tail}
unfoldable pub use Rattle.core_laws.specs.Views.{AreEdgesOnce}
pub use Rattle.core_laws.specs.Laws.{Content, EdgeHolds, Edges, EndTold, EndsAreTold, Knows, Laws, NodeStateHolds, Nodes, Sees, TokensHold, WireHolds, WordHolds, is_excused, is_node_bit, lacks, weight}
pub use Rattle.core_laws.specs.Start.{fits, fresh_sight, has_output_edge, is_end_among, is_reserved_node, start, start_node, start_port, start_word, wire_fits}
pub use Rattle.core_laws.specs.Steps.{Act, Close, Finish, Pull, Push, Step, Unwant, Want, acted, acting_end, after, allows, bit_at_end, born, changed, is_edge, is_held_end, is_none_of, is_updated, learned, learning, left, looked, marked, may, may_act, peer_in, port_after, spent, taken, telling, tells, wiring, with_bit, with_tokens}
pub use Rattle.core_laws.specs.Views.{CoreState, Flags, NodeState, PortState, Sight, Sizes, Wire, adding, bit_of, counts, edges_of, end_of, flags_at, has, is_end, is_over, is_set, is_unborn, knows, list_of_option, may_wire, names, no_node, no_port, node_at, node_of, port_at, port_of, put_node, reserved_edge_count, seeing, wire_ok, without}
pub use Rattle.port_word.specs.Pictures.{no_flags, no_wire}
pub use Rattle.std.proofs.Common.{Bool, List, None, Option, Some, [], ap, append-nil, arith, bit_or, bit_xor, cond, eqb, false, get_or, inl, inr, is_none, is_some, leb, length, ltb, map, max, not, refl, set, subst, suc, sym, true, zero, ℕ, ◌&&◌, ◌*◌, ◌++◌, ◌+◌, ◌-◌, ◌<◌, ◌==◌, ◌^◌, ◌||◌, ◌∙◌, ◌∷◌, ◌≡◌, ◌≢◌, ◌≤◌}
pub use Rattle.std.proofs.lemmas.Bool.{and_parts, both_ways, cases_Bool, cases_eq, cases_lt, cond_both, eq-eqb, eqb-true, ne_eqb, or_cases, or_left, or_right}
pub use Rattle.std.proofs.lemmas.List.{get_or-set_other, get_or-set_same, get_or_default, get_or_past, length-set, map-append, set-get_or}
pub use Rattle.std.proofs.lemmas.List.FromFn.{get_or-map-range_with_len, length-map-range_with_len}
pub use Rattle.std.proofs.lemmas.List.Folds.{list_any_at}
pub use Rattle.std.proofs.lemmas.List.Sums.{AllPass-from_list_all, get_or-le-sum_by, sum_by-cons, sum_by-le, sum_by-set}
pub use Rattle.std.proofs.lemmas.Nat.Bits.{bit_at-lt, bit_at-pow_other, bit_at-pow_same, bit_at-zero, bit_at_or, bit_at_xor}
pub use Rattle.std.specs.Int.{bit_at}
pub use Rattle.std.specs.List.{filter, range_with_len, sum_by}
