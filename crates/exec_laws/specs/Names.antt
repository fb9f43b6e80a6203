-- The names of this crate's definitions in one place: who needs several of its files imports from
-- here.
pub use Rattle.exec_laws.specs.Births.{AreAllBorn, AreBirths, Birth, IsBadGrowth, IsBirth, TakeBlanks, all_places, blanks_of, born_wires, births_of, grown_ranks, grown_wires, is_place, growths_of, HasForm, form_at, kept_growths, left_of, reserve_of, set_ranks, wired_by}
pub use Rattle.exec_laws.specs.Growths.{Left, growth_flaw, new_wire, new_wires, places_for}
pub use Rattle.exec_laws.specs.Ends.{AllNodesOver, BoxSnapshot, SupportsStatus, ContradictsStatus, EdgeSnapshot, EndSettled, GivenBack, GivesBox, WasLoaded, IsDone, IsFault, IsNothingDue, IsStuck, KeepsFault, KnowsPort, MarkTells, Snapshot, boxes_of, is_finished, is_unfinished, last_status, stuck_from}
pub use Rattle.exec_laws.specs.Moves.{Acts, ActsCell, Grew, GrewCell, IsNewNode, KeepsBox, LeavesView, NodeTurns, Prepares, StaysBox, StaysOrActs, Touches, ViewKnows, action_port, after_action, is_resting, is_told, is_waiting, lifted, new_mark, state_after, told, told_if, told_state, unloaded}
pub use Rattle.exec_laws.specs.Runs.{AreEdgesOf, AsksToGrow, BoxHolds, CellPicture, EdgeEndHolds, HasEdge, HasFinished, HoldsGraph, InputHolds, IsAtRest, IsBorn, IsEnd, IsNodeOver, IsPort, MarkHolds, MayCall, MayRest, NodeHolds, OutputHolds, QuietBut, Running, ViewHolds, chunks_of, kept_flags, last_answer, new_edge, no_cell, peer, port_edge, cell_at, edge_at, number_at}
unfoldable pub use Rattle.exec_laws.specs.Runs.{box_at}
pub use Rattle.exec_laws.specs.declared.edges.EdgeState.{EdgeState}
pub use Rattle.exec_laws.specs.declared.edges.NodeMark.{NodeMark}
pub use Rattle.exec_laws.specs.declared.edges.NodeStatus.{NodeStatus}
pub use Rattle.exec_laws.specs.declared.edges.StuckNode.{StuckNode}
