-- The names from outside that this crate's proofs use, in one place.
pub use Rattle.core_laws.proofs.Kept.{laws-kept, marks-of, pending-most, some-pending}
pub use Rattle.core_laws.proofs.Starts.{start-laws}
pub use Rattle.core_laws.specs.Laws.{Laws}
pub use Rattle.core_laws.specs.Start.{charged, fits, fresh_sight, is_end_among, start_node, start_port}
pub use Rattle.core_laws.specs.Steps.{after, is_updated, may, with_bit}
pub use Rattle.core_laws.specs.Views.{edges_of, flags_at, no_node, node_at, put_node, reserved_edge_count, seeing, without}
pub use Rattle.core_laws.specs.declared.types.CoreState.{CoreState}
pub use Rattle.core_laws.specs.declared.types.Event.{Event}
pub use Rattle.core_laws.specs.declared.types.Sight.{Sight}
pub use Rattle.core_laws.specs.declared.types.Sizes.{Sizes}
pub use Rattle.exec_core.specs.Runs.{run}
pub use Rattle.port_word.specs.declared.flags.Flags.{Flags}
pub use Rattle.std.proofs.Common.{List, Some, [], ap, append-nil, arith, cond, drop, eqb, get_or, inl, inr, length, map, not, rules, set, subst, suc, sym, take, true, zero, ℕ, ◌%◌, ◌*◌, ◌++◌, ◌+◌, ◌-◌, ◌<◌, ◌^◌, ◌∙◌, ◌∷◌, ◌≡◌, ◌≢◌, ◌≤◌}
pub use Rattle.std.proofs.Math.Nat.{div-eq_of_lt}
pub use Rattle.std.proofs.Math.Pow.{pow-lt}
pub use Rattle.std.proofs.lemmas.Bool.{cases_lt}
pub use Rattle.std.proofs.lemmas.Fn.{filter_same}
pub use Rattle.std.proofs.lemmas.Grind.{common_steps}
pub use Rattle.std.proofs.lemmas.List.{get_or-set_other, set-set, take_more}
pub use Rattle.std.proofs.lemmas.List.FromFn.{filter_of_map_range_with_len_more, map-range_with_len_more, sum_by-map-range_with_len_more}
pub use Rattle.std.specs.Int.{bit_at}
pub use Rattle.std.specs.List.{filter, range_with_len}
