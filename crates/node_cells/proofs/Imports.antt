-- The names from outside that this crate's proofs use, in one place.
pub use Rattle.std.proofs.Common.{Bool, List, None, Option, Some, [], ap, append-nil, append_assoc, arith, cond, false, inl, inr, is_some, length, refl, rules, subst, sym, true, ℕ, ◌++◌, ◌+◌, ◌-◌, ◌/◌, ◌%◌, ◌<◌, ◌==◌, ◌^◌, ◌||◌, ◌∙◌, ◌≡◌, ◌≢◌, ◌≤◌, ◌⊎◌}
pub use Rattle.std.proofs.lemmas.Bool.{and_parts, cases_Bool, cases_lt, eq-eqb, eqb-true, ne_eqb}
pub use Rattle.std.proofs.lemmas.List.{length-map}
pub use Rattle.core_laws.specs.Laws.{ConsumerSees, ProducerSees, Sees}
pub use Rattle.core_laws.specs.Steps.{StepAnswer, nothing, spent, updated}
pub use Rattle.core_laws.specs.Views.{edges_of, end_of, flags_at, has, is_end, is_set, knows, node_at, port_at}
pub use Rattle.core_laws.specs.declared.types.NodeState.{NodeState as SeatState}
pub use Rattle.core_laws.proofs.Lists.{has-filter}
pub use Rattle.exec_table.specs.Boards.{Board, Lane, chunks_in, end_for, is_over_stage, is_unborn_stage, lane_at, stage_at}
pub use Rattle.port_word.specs.declared.flags.Wire.{Wire}
pub use Rattle.exec_table.specs.declared.types.NodeView.{NodeView}
pub use Rattle.exec_table.specs.declared.types.EdgeEnd.{EdgeEnd}
pub use Rattle.exec_table.specs.declared.rule.NodeSeat.{NodeSeat}
pub use Rattle.exec_table.specs.Known.{is_due, state_taken}
pub use Rattle.exec_table.specs.Seats.{Identity, IsSeatOf, MakesStep, MakesUpdated, end_of_view, identity_of, slot_in, view}
pub use Rattle.exec_table.proofs.Known.{state-made}
pub use Rattle.exec_table.proofs.Readiness.{edge-count, view-end}
pub use Rattle.port_word.specs.Names.{IsDifference, OutputAllows, Picture, is_in_finished, input_after, is_out_finished, output_after}
pub use Rattle.port_word.specs.declared.flags.Flags.{Flags}
pub use Rattle.port_word.specs.declared.flags.Port.{Port}
pub use Rattle.port_word.specs.declared.flags.Port.TheVariants.{Input, Output}
pub use Rattle.port_word.specs.declared.port_view.InputPort.{InputPort}
pub use Rattle.exec_laws.specs.Names.{BoxHolds, CellPicture, EdgeEndHolds, HasEdge, InputHolds, IsBorn, IsPort, MarkHolds, NodeTurns, OutputHolds, Running, ViewHolds, chunks_of, is_waiting}
pub use Rattle.exec_laws.specs.Prelude.{BoxPicture, FollowsKept, InputFollows, Lists, OutputFollows, ProducerKnows, Table, input_count, output_count, taken_out, with_pulled, with_pushed}
pub use Rattle.node_ports.specs.Actions.{InTurn, SameLists, SamePorts}
pub use Rattle.node_ports.specs.Ports.{PortsHold, PortsPicture, chunks_on, edge_of, input_seen, is_own_port, lifted_of, output_seen, ports_picture, pulled_by, pushed_by, shown}
pub use Rattle.node_cells.specs.Cells.{CellNodeHolds, cell_ports}
pub use Rattle.node_cells.specs.declared.cell.NodeCell.{NodeCell}
pub use Rattle.node_ports.specs.declared.ports.NodePorts.{NodePorts}
unfoldable pub use Rattle.exec_laws.specs.Prelude.{input_at, output_at, pushes_to, wire_at}
pub use Rattle.exec_laws.specs.declared.edges.EdgeState.{EdgeState}
pub use Rattle.exec_laws.specs.declared.edges.NodeMark.{NodeMark}
