-- The names from outside that this crate's proofs use, in one place.
pub use Rattle.std.proofs.Common.{Bool, List, None, Option, Some, [], ap, append-nil, append_assoc, arith, cond, false, get_or, inl, inr, is_some, length, map, not, refl, set, subst, sym, true, ℕ, ◌&&◌, ◌++◌, ◌+◌, ◌<◌, ◌==◌, ◌||◌, ◌∙◌, ◌∷◌, ◌≡◌, ◌≢◌, ◌≤◌, ◌⊎◌}
pub use Rattle.std.proofs.lemmas.Bool.{and_from, and_parts, cases_Bool, cases_eq, cases_lt, eq-eqb, ne_eqb}
pub use Rattle.std.proofs.lemmas.List.{get_or-map, get_or-set_other, get_or-set_same, get_or_past, length-map, length-set}
pub use Rattle.core_laws.specs.Laws.{Sees}
pub use Rattle.core_laws.specs.Steps.{StepAnswer, flags, marked_peer, nothing}
pub use Rattle.core_laws.specs.Views.{edges_of, end_of, flags_at, has, is_end, knows, node_at, port_at, without}
pub use Rattle.port_word.specs.Pictures.{no_flags}
pub use Rattle.core_laws.specs.declared.types.NodeState.{NodeState as SeatState}
pub use Rattle.core_laws.proofs.Lists.{has-filter, seeing-here}
pub use Rattle.core_laws.specs.declared.types.Step.{Step}
pub use Rattle.port_word.specs.declared.flags.Wire.{Wire}
pub use Rattle.exec_table.specs.declared.types.NodeView.{NodeView}
pub use Rattle.exec_table.specs.declared.types.Updated.{Updated}
pub use Rattle.exec_table.specs.declared.types.EdgeEnd.{EdgeEnd}
pub use Rattle.exec_table.specs.declared.rule.NodeSeat.{NodeSeat}
pub use Rattle.exec_table.specs.Known.{core_state_after as seat_after, price}
pub use Rattle.exec_table.specs.Ready.{ready}
pub use Rattle.exec_table.specs.Seats.{Identity, IsSeatOf, MakesStep, end_of_view, holds_chunk, identity_of, slot_in, slot_of, slots, view}
pub use Rattle.exec_table.proofs.Known.{state-made}
pub use Rattle.exec_table.proofs.Stepping.{holds-in}
pub use Rattle.exec_table.proofs.Seating.{known-wire}
pub use Rattle.chunk_data.specs.Names.{Table as Chunk}
pub use Rattle.port_word.specs.Names.{InputAllows, IsDifference, IsSound, MaySee, OutputAllows, Picture, ShowsInFlags, TakesFirstAction, after_see, chunk_after, chunk_step, holds_data, input_after, input_step, no_input, output_after, output_step, over_flags, seen_chunk}
pub use Rattle.port_word.specs.Sights.{is_chunk_due, port_chunk, port_flags}
pub use Rattle.port_word.specs.declared.flags.Action.{Action}
pub use Rattle.port_word.specs.declared.flags.Flags.{Flags}
pub use Rattle.port_word.specs.declared.flags.Port.{Port}
pub use Rattle.port_word.specs.declared.flags.Port.TheVariants.{Input, Output}
pub use Rattle.port_word.specs.declared.port_view.InputPort.{InputPort}
pub use Rattle.exec_laws.specs.Names.{IsEnd, IsPort, MarkHolds, action_port, number_at, port_edge}
pub use Rattle.exec_laws.specs.Prelude.{BoxPicture, FollowsKept, Table, taken_out}
pub use Rattle.exec_laws.proofs.Ports.{push-away}
pub use Rattle.node_ports.specs.Actions.{Acted, MayAct, SameLists, SamePorts, step_of, untaken}
pub use Rattle.port_word.specs.declared.flags.Action.TheVariants.{Close, Finish, Pull, Push, Unwant, Want}
pub use Rattle.node_ports.specs.Ports.{HasPortOf, PortKnown, PortsHold, PortsPicture, chunks_on, edge_of, input_seen, is_own_port, is_updated_port, lifted_of, output_seen, ports_picture, pulled_by, pushed_by, shown}
pub use Rattle.node_ports.specs.declared.ports.NodePorts.{NodePorts}
unfoldable pub use Rattle.exec_laws.specs.Prelude.{in_count, input_at, out_count, output_at, pushes_to}
pub use Rattle.exec_laws.specs.declared.edges.NodeStatus.{NodeStatus}
