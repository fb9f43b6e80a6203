-- The names from outside that this crate's proofs use, in one place.
pub use Rattle.std.proofs.Common.{Bool, List, None, Option, [], ap, append-nil, append_assoc, arith, cond, drop, false, get_or, inl, inr, is_some, length, map, refl, rules, set, subst, suc, sym, take, true, vec_capacity, zero, ℕ, ⊎_elim, ◌++◌, ◌+◌, ◌<◌, ◌∙◌, ◌∷◌, ◌≡◌, ◌≢◌, ◌≤◌}
pub use Rattle.std.proofs.lemmas.List.{get_or-map, get_or-set_other, get_or-set_same, length-map, length-set, map-set}
pub use Rattle.std.proofs.lemmas.Simd.{map-map}
pub use lib.ListN.{get_elem?}
pub use mathlib.Core.Option.{some, some-injective, some-ne-none}
pub use Rattle.atomic_table.proofs.Lists.{at_index, at_map, at_set}
pub use Rattle.port_word.specs.declared.flags.Port.{Port}
pub use Rattle.port_word.specs.declared.flags.Wire.{Wire}
pub use Rattle.exec_table.specs.Boards.{node_view}
pub use Rattle.exec_table.specs.Seats.{Identity, IsSeatOf, identity_of, view}
pub use Rattle.exec_table.specs.Surveys.{AreAll, EachSeat, IsBack, Surveyed, views}
pub use Rattle.exec_table.specs.declared.rule.NodeSeat.{NodeSeat}
pub use Rattle.exec_table.specs.declared.types.NodeView.{NodeView}
pub use Rattle.exec_laws.specs.Names.{CellPicture, ContradictsStatus, GivenBack, GivesBox, HasEdge, HoldsGraph, IsBorn, IsDone, IsStuck, MarkTells, StaysBox, SupportsStatus, boxes_of, cell_at, is_resting, is_waiting, stuck_from}
pub use Rattle.exec_laws.specs.Prelude.{BoxPicture}
pub use Rattle.exec_laws.specs.declared.edges.NodeStatus.{NodeStatus}
pub use Rattle.exec_laws.specs.declared.edges.StuckNode.{StuckNode}
pub use Rattle.node_cells.specs.Cells.{cell_ports}
pub use Rattle.node_cells.specs.Ends.{CellAtHome, HasPlaces, WholeCell, no_whole, picture_of, pictures, whole_at}
pub use Rattle.node_cells.specs.Stored.{StoredAs}
pub use Rattle.node_cells.specs.Turns.{AtHome, IsAtWork, MayBegin, turn_picture}
pub use Rattle.node_cells.specs.declared.cell.NodeCell.{NodeCell}
pub use Rattle.node_ends.specs.CellLists.{AreAtRest, AreCells, AreSurveyed, CellGraph, IsCellOf, IsSettled, IsSurveyRoom, IsUnborn, bodies_of, body_of, boxes_in, pictures_of, seats_of, whole_of, wholes_of}
pub use Rattle.node_ends.specs.declared.cells_survey.NodeBody.{NodeBody}
unfoldable pub use Rattle.exec_laws.specs.Names.{box_at}
pub use Rattle.port_word.specs.Names.{is_out_finished, output_at}
pub use Rattle.node_ends.specs.Resting.{has_room, is_wanting}
pub use Rattle.std.proofs.lemmas.Bool.{cases_lt}
pub use Rattle.node_ends.specs.RunEnds.{BoxStays, BoxesStay}
pub use Rattle.node_ports.specs.Actions.{SamePorts}
pub use Rattle.node_ports.specs.Ports.{PortsPicture}
