-- The names from outside that this crate's definitions use, in one place.
pub use Rattle.port_word.specs.declared.flags.Port.{Port}
pub use Rattle.port_word.specs.declared.flags.Wire.{Wire}
pub use Rattle.exec_table.specs.Boards.{is_over_stage, is_unborn_stage}
pub use Rattle.exec_table.specs.declared.types.Stage.TheVariants.{Begun}
pub use Rattle.exec_table.specs.Seats.{Identity, IsSeatOf, end_of_view, slot_in, view}
pub use Rattle.exec_table.specs.declared.rule.NodeSeat.{NodeSeat}
pub use Rattle.exec_laws.specs.declared.edges.NodeMark.{NodeMark}
pub use Rattle.exec_laws.specs.Names.{BoxHolds, CellPicture, MarkHolds, is_waiting}
pub use Rattle.exec_laws.specs.Prelude.{BoxPicture, FollowsKept, Table}
pub use Rattle.node_cells.specs.declared.cell.NodeCell.{NodeCell}
