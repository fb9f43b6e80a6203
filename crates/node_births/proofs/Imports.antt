-- The names from outside that this crate's proofs use, in one place.
pub use Rattle.chunk_data.proofs.Places.{count_by-once}
pub use Rattle.core_laws.proofs.Lists.{flags-last, flags-unknown, has-adding}
pub use Rattle.core_laws.specs.Steps.{nothing}
pub use Rattle.core_laws.specs.Views.{edge_in, of_reserve}
pub use Rattle.core_laws.specs.declared.types.NodeState.{NodeState as SeatState}
pub use Rattle.core_laws.specs.declared.types.Sight.{Sight}
pub use Rattle.exec_laws.proofs.Acting.{stays-both, stays-itself}
pub use Rattle.exec_laws.proofs.BirthLaws.{place-of, ranks-append, wires-append}
pub use Rattle.exec_laws.proofs.Growing.{follows-wide, grew-list, grown-counts, ports-before, wide-counts, wide-input, wide-old, wide-output}
pub use Rattle.exec_laws.proofs.GrownGraphs.{graph-grown, not-false, set_ranks-length, set_ranks-other}
pub use Rattle.exec_laws.proofs.Imports.{All-from_get_or, AllByRecursion, AreAllBorn, AreBirths, AreOnce, AreOnce-append, AreOnce-tail, ArePortsOf, AsksToGrow, Birth, Bool, BoxHolds, BoxPicture, FollowsKept, GrowthForm, HasEdge, HasForm, Input, InputPort, IsBirth, IsBlank, IsBorn, IsEnd, IsGraph, IsPort, IsSome, IsSound, IsTrue, Kind, Left, List, Lists, MayGrow, Me, New, NewEdge, None, Option, Output, Picture, Port, Reserve, Some, Spec, StaysBox, Table, TakeBlanks, Who, Wire, [], after_grow, all_kinds, all_places, and_parts, ap, append-nil, append_assoc, arith, births_of, blanks_of, born_wires, both_ways, cases_Bool, cases_eq, cases_lt, cond, count_by, count_by-append, count_by-cons, count_by-none, end_node, end_rank, eq-eqb, eqb-true, false, false_from_ne_true, filter, find, flat_map, flat_map-append, follows-new, follows-same, form_at, form_kind, get_or, get_or-append_right, get_or-append_seam, get_or-eq_default, get_or-range_with_len, get_or-set_other, get_or-set_same, get_or_append_left, grown_ranks, grown_wires, growth_flaw, growth_list, growths_of, has_gap, has_input, has_large_port, has_output, has_wrong_end, holds_data, inl, input_count, inr, is_blank_of, is_named, is_out_of_order, is_place, is_port_taken, is_some, kept_growths, lacks_blank, length, length-append, length-map, length-range_with_len, length-replicate, list_any, list_any-append, list_any_at, list_any_none, lt-ltb, ltb-true, map, map-append, nat_lt, ne_eqb, new_input, new_picture, new_wire, new_wires, no_box, no_flags, no_input, no_wire, not, option_map, or_left, or_parts, or_right, output_count, over_flags, peer, places_for, port_edge, range_with_len, rank_at, refl, replicate, reserve_of, rules, same_kind, set_ranks, sound-grow, subst, suc, sum_by-append, sum_by-cons, sym, taken_out, true, zero, ℕ, ◌&&◌, ◌++◌, ◌+◌, ◌-◌, ◌<◌, ◌==◌, ◌||◌, ◌∙◌, ◌∷◌, ◌≡◌, ◌≢◌, ◌≤◌, ◌⊎◌}
pub use Rattle.exec_laws.proofs.Nodes.{not-blank}
pub use Rattle.exec_laws.specs.Names.{Grew, left_of}
pub use Rattle.exec_laws.specs.declared.edges.DueCall.TheVariants.{Expand}
pub use Rattle.exec_laws.specs.declared.edges.NodeMark.{NodeMark}
pub use Rattle.exec_laws.specs.declared.edges.NodeStatus.TheVariants.{AtWork, Due, Over}
pub use Rattle.exec_laws.specs.declared.growth.Blank.{Blank}
pub use Rattle.exec_table.proofs.Ends.{ends-made, number-made, same-made, stage-made}
pub use Rattle.exec_table.proofs.Imports.{Identity, IsSeatOf, MakesStep, Sizes, and_from, edge_count, end_of_view, flags_at, get_elem?, get_or_past, has, identity_of, is_set, knows, le-leb, learning, names, no_end, or_cases, slot_in, some, some-ne-none, take, view, wire_ok, wired, ⊎_elim}
pub use Rattle.exec_table.proofs.Known.{state-made}
pub use Rattle.exec_table.specs.Known.{IsSameAt, end_wired}
pub use Rattle.exec_table.specs.declared.rule.NodeSeat.{NodeSeat}
pub use Rattle.exec_table.specs.declared.types.EdgeEnd.{EdgeEnd}
pub use Rattle.graph_checks.proofs.BlankLaws.{kinds-are}
pub use Rattle.graph_checks.proofs.FlawLaws.{flaw-over-own, growth-flaw-is, places-length}
pub use Rattle.graph_checks.proofs.Imports.{Edge, GrowNode, GrowthFlaw, blank_place, edge-of, edges_flaw, first_flaw, flaw_over, grown_kinds, growth_form, kind_place, own_wires, spec_form, without_blank}
pub use Rattle.graph_checks.proofs.OwnPorts.{own-take-same, own-take-same-of-none}
pub use Rattle.graph_checks.proofs.SamePorts.{AreAll}
pub use Rattle.growth_notes.specs.Rules.{AreFirst}
pub use Rattle.node_births.specs.Left.{LosesGrowth, ReserveForm, is_left, reserve_form}
pub use Rattle.node_births.specs.LeftNodes.{AreNodesLeft, GraphBefore, GraphLeftLaw, GrowsBy, HasPortPlaces, IsGraphBefore, IsHeldBy, KeepsOwnFlaw, NodeLeft, StandsFrom, all_births, reserve_before, table_edges, ungrown_at, wires_left}
pub use Rattle.node_births.specs.MorePorts.{AddsPort, AreReservedWires, Gains, GainsPort, GainsPorts, HasNewWire, IsNextPort, Learns, MayGain, edges_on, end_count, with_input, with_output}
pub use Rattle.node_births.specs.Newborn.{IsNewborn}
pub use Rattle.node_births.specs.NextBirths.{IsNamedReserve, IsNextBirth}
pub use Rattle.node_births.specs.NotedBirths.{birth_of, births_by}
pub use Rattle.node_births.specs.OwnBirths.{ArePeers, AreSoundBirths, GrowthsLeft, HasPeer, IsBoxLeft, IsSoundBirth, StandsAmong, WasBorn, births_range, born_edges, graph_range, left_without, reserve_after}
pub use Rattle.node_births.specs.TableEdges.{EdgeRange, HasWiresOf, longer_range}
pub use Rattle.node_births.specs.Widened.{GetsPorts, HasWidened, IsGrowing}
pub use Rattle.node_births.specs.declared.noted_growth.NotedGrowth.{NotedGrowth}
pub use Rattle.node_cells.proofs.NewCells.{fresh-box}
pub use Rattle.node_cells.proofs.StayLaws.{wires-still}
pub use Rattle.node_cells.specs.Cells.{cell_ports}
pub use Rattle.node_cells.specs.Ends.{HasPlaces}
pub use Rattle.node_cells.specs.NewCells.{port_of_side}
pub use Rattle.node_cells.specs.Prelude.{is_over_stage, is_unborn_stage}
pub use Rattle.node_cells.specs.Stops.{GrowthStays, left_in, own_flaw}
pub use Rattle.node_cells.specs.Stored.{AwaitsBirth}
pub use Rattle.node_cells.specs.Turns.{IsAtWork, IsDue}
pub use Rattle.node_cells.specs.declared.cell.NodeCell.{NodeCell}
pub use Rattle.node_cells.specs.declared.cell.NodeReserve.{NodeReserve}
pub use Rattle.node_cells.specs.declared.stop_cause.StopCause.TheVariants.{Fault, Flaw, Memory}
pub use Rattle.node_cells.specs.declared.stop_cause.StopCause.{StopCause}
pub use Rattle.node_ports.proofs.LoopLaws.{edge-stays, lists-both, same-lists}
pub use Rattle.node_ports.proofs.Shown.{Differs, SameEdge, differs-quiet, edges_at, own-or-past, passed, past-chunks, past-sight, place, quiet-passed, quiet-seen, quiet-sight, seen_at, shown-at, sight, taken-itself}
pub use Rattle.node_ports.proofs.StillLaws.{still-holds, still-lists, still-quiet}
pub use Rattle.node_ports.specs.Actions.{SameLists, SamePorts}
pub use Rattle.node_ports.specs.Ports.{HasPortOf, PortKnown, PortsHold, PortsPicture, edge_of, input_seen, is_own_port, is_updated_port, lifted_of, output_seen, ports_picture, pulled_by, pushed_by, shown}
pub use Rattle.node_ports.specs.declared.ports.NodePorts.{NodePorts}
pub use Rattle.proc_api.proofs.Imports.{AreReserves, get_or-append-add, holds_node, length-filter, nat_le, no_reserve, reserved_edges}
pub use Rattle.proc_api.proofs.RackLaws.{kind-at}
pub use Rattle.proc_api.specs.Names.{IfErr, IfOk, Loads, SameBox}
pub use Rattle.std.proofs.Common.{ltb-false, slice_index_or}
pub use Rattle.std.proofs.lemmas.Fn.{filter_same}
pub use Rattle.std.proofs.lemmas.List.Concat.{get_or-flat_map}
pub use Rattle.std.proofs.lemmas.List.Elements.{filter-append}
pub use Rattle.std.proofs.lemmas.List.Folds.{length-flat_map-take}
pub use Rattle.std.proofs.lemmas.List.Sums.{count_by-le-length}
pub use Rattle.std.proofs.lemmas.List.{replicate-append-replicate}
unfoldable pub use Rattle.exec_laws.proofs.Imports.{box_at, in_count, input_at, out_count, output_at, pushes_to, wire_at}
unfoldable pub use Rattle.proc_api.specs.Reserves.{reserve_at}
