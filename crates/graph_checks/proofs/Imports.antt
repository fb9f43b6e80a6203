-- The names from outside that this crate's proofs use, in one place.
pub use Rattle.exec_laws.specs.Growths.{Left, blank_place, end_node, form_kind, growth_flaw, has_gap, has_large_port, has_wrong_end, is_blank_of, is_named, is_out_of_order, is_port_taken, lacks_blank, new_wires, places_for, without_blank}
pub use Rattle.exec_laws.specs.declared.growth.Blank.{Blank}
pub use Rattle.exec_laws.specs.declared.growth.GrowthFlaw.{GrowthFlaw}
pub use Rattle.graph_checks.specs.Flaws.{TakeSamePorts, blanks_flaw, edges_flaw, first_flaw, flaw_over, grown_kinds, ranks_of, wires_flaw}
pub use Rattle.graph_checks.specs.OwnWires.{own_wire, own_wires, wires_for}
pub use Rattle.port_word.specs.declared.flags.Reserve.{Reserve}
pub use Rattle.port_word.specs.declared.flags.Wire.{Wire}
pub use Rattle.proc_api.proofs.Graphs.{all_below-at, all_below-fails, input-below-count, input-of-count, is-gapless, output-below-count, output-of-count, wire-input, wire-output}
pub use Rattle.proc_api.proofs.Imports.{All-get_or, AllPass-from_list_all, Bool, IsGraph, List, [], all_below, and_from, and_parts, ap, ap₂, arith, both_ways, cases_Bool, cond, eq-eqb, eqb-true, false, get_or, get_or_default, has_input, has_output, inl, input_count, inr, is_gapless, length, list_all, list_any, map, no_wire, not, output_count, refl, remove, subst, suc, sym, true, ℕ, ◌++◌, ◌+◌, ◌<◌, ◌==◌, ◌||◌, ◌∙◌, ◌∷◌, ◌≡◌}
pub use Rattle.proc_api.proofs.PortCounts.{edge-of, has_port}
pub use Rattle.proc_api.specs.Forms.{GrowthForm, growth_form, spec_form}
pub use Rattle.proc_api.specs.Names.{kind_place, same_kind}
pub use Rattle.proc_api.specs.declared.growth.Edge.{Edge}
pub use Rattle.proc_api.specs.declared.growth.GrowNode.{GrowNode}
pub use Rattle.proc_api.specs.declared.growth.Growth.{Growth}
pub use Rattle.proc_api.specs.declared.growth.Who.{Who}
pub use Rattle.proc_api.specs.declared.growth.Who.TheVariants.{Me, New}
pub use Rattle.query_model.specs.Kinds.{kind_of}
pub use Rattle.query_model.specs.declared.processor_spec.Kind.{Kind}
pub use Rattle.query_model.specs.declared.processor_spec.Spec.{Spec}
pub use Rattle.std.proofs.Common.{None, Option, Some, count_by, drop, le-ltb, ltb-true, nat_lt, ne_eqb, take, ⊎_elim, ◌≢◌, ◌≤◌, ◌⊎◌}
pub use Rattle.std.proofs.Math.Seq.{drop-cons}
pub use Rattle.std.proofs.lemmas.List.{length-map}
pub use Rattle.std.proofs.lemmas.List.Folds.{list_any-append}
pub use Rattle.std.proofs.lemmas.List.Sums.{sum_by-cons}
pub use Rattle.std.proofs.lemmas.Bool.{or_cases, or_left, or_parts, or_right}
pub use Rattle.std.specs.List.{find}
pub use denote.Enum.Bare.{same_true}
unfoldable pub use Rattle.proc_api.specs.Names.{rank_at, wire_at}
