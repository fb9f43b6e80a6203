-- The names from outside that this crate's definitions use, in one place.
pub use Rattle.port_word.specs.Names.{IsDifference, IsSound, Picture, holds_data}
pub use Rattle.port_word.specs.declared.flags.Action.{Action}
pub use Rattle.port_word.specs.declared.flags.Action.TheVariants.{Close, Finish, Pull, Push, Unwant, Want}
pub use Rattle.port_word.specs.declared.flags.Flags.{Flags}
pub use Rattle.port_word.specs.declared.flags.Port.{Port}
pub use Rattle.port_word.specs.declared.flags.Port.TheVariants.{Input, Output}
pub use Rattle.port_word.specs.declared.flags.Wire.{Wire}
pub use Rattle.port_word.specs.declared.port_view.InputPort.{InputPort}
pub use Rattle.core_laws.specs.Views.{flags_at, has, is_set, knows}
pub use Rattle.exec_table.specs.declared.types.NodeView.{NodeView}
pub use Rattle.exec_table.specs.declared.types.Updated.{Updated}
pub use Rattle.exec_table.specs.Seats.{Identity, IsSeatOf, Slots, end_of_view, slot_in, slot_of, slots, view}
pub use Rattle.exec_table.specs.declared.rule.NodeSeat.{NodeSeat}
pub use Rattle.exec_laws.specs.declared.edges.NodeStatus.{NodeStatus}
pub use Rattle.exec_laws.specs.Names.{IsEnd, IsPort, MarkHolds, peer, port_edge}
pub use Rattle.exec_laws.specs.Prelude.{BoxPicture, FollowsKept, Lists, Table, taken_out}
pub use Rattle.node_ports.specs.declared.ports.NodePorts.{NodePorts}
unfoldable pub use Rattle.exec_laws.specs.Prelude.{in_count, input_at, out_count, output_at, pushes_to}
