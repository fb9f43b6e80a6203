-- The names of the core that this crate's definitions use, in one place.
pub use Rattle.port_word.specs.declared.flags.Flags.{Flags}
pub use Rattle.port_word.specs.declared.flags.Wire.{Wire}
pub use Rattle.port_word.specs.declared.flags.Reserve.{Reserve}
pub use Rattle.core_laws.specs.declared.types.Sizes.{Sizes}
pub use Rattle.core_laws.specs.declared.types.Sight.{Sight}
pub use Rattle.core_laws.specs.declared.types.PortState.{PortState}
pub use Rattle.core_laws.specs.declared.types.NodeState.{NodeState}
pub use Rattle.core_laws.specs.declared.types.CoreState.{CoreState}
pub use Rattle.core_laws.specs.declared.types.Step.{Step}
pub use Rattle.core_laws.specs.declared.types.Act.{Act}
pub use Rattle.core_laws.specs.declared.types.Act.TheVariants.{Want, Unwant, Push, Pull, Finish, Close}
pub use Rattle.chunk_data.specs.Names.{Table as Chunk}
pub use Rattle.core_laws.specs.Views.{AreEdgesOnce, flags_at, has, is_end, is_over, is_set, is_unborn, knows, may_wire, node_at, port_at, reserved_edge_count, wire_ok}
pub use Rattle.core_laws.specs.Steps.{StepAnswer, acting_end, after, allows, answer, has_token, is_none_of, may, may_leave, may_take, peer_in}
pub use Rattle.core_laws.specs.Start.{has_output_edge, is_reserved_node, start}
pub use Rattle.core_laws.specs.Laws.{Laws}
