-- The names from outside that this crate's definitions use, in one place.
pub use Rattle.port_word.specs.declared.flags.Wire.{Wire}
pub use Rattle.exec_table.specs.Boards.{Board}
pub use Rattle.exec_table.specs.Seats.{Identity, view}
pub use Rattle.exec_table.specs.Surveys.{EachSeat, IsBack}
pub use Rattle.exec_table.specs.declared.rule.NodeSeat.{NodeSeat}
pub use Rattle.exec_laws.specs.Names.{CellPicture, HasEdge, HoldsGraph, IsDone, IsStuck, is_waiting}
pub use Rattle.exec_laws.specs.Prelude.{BoxPicture}
pub use Rattle.node_cells.specs.Cells.{cell_ports}
pub use Rattle.node_cells.specs.Ends.{AreSettled, HasPlaces, WholeCell, whole_at}
pub use Rattle.node_cells.specs.Stored.{IsStored}
pub use Rattle.node_cells.specs.Turns.{turn_picture}
pub use Rattle.node_cells.specs.declared.cell.NodeCell.{NodeCell}
pub use Rattle.node_ends.specs.declared.cells_survey.NodeBody.{NodeBody}
pub use Rattle.node_ends.specs.declared.cells_survey.SurveyRoom.{SurveyRoom}
pub use Rattle.node_ends.specs.declared.node_ends.EndRoom.{EndRoom}
pub use Rattle.node_ends.specs.declared.node_ends.NodesEnd.{NodesEnd}
unfoldable pub use Rattle.exec_laws.specs.Names.{box_at}
