-- When a cell fits its place on the shelf.
use Rattle.std.specs.Prelude.{List, Option, Some, [], length, true, ℕ, ◌<◌, ◌≡◌, ◌≢◌}
use Rattle.atomic_table.specs.Seated.{TableId}
use Rattle.core_laws.specs.declared.types.Sizes.{Sizes}
use Rattle.exec_laws.specs.Births.{Birth}
use Rattle.exec_laws.specs.Names.{IsBorn}
use Rattle.exec_laws.specs.Prelude.{BoxPicture, Reserve, holds_node}
use Rattle.exec_table.specs.Seats.{IsSeatOf}
use Rattle.growth_notes.specs.Notes.{noted, noted_in}
use Rattle.node_births.specs.Left.{NamedNode, reserve_form}
use Rattle.node_births.specs.NextBirths.{IsNamedReserve}
use Rattle.node_births.specs.NotedBirths.{births_by}
use Rattle.node_births.specs.OwnBirths.{IsBoxLeft, StandsAmong}
use Rattle.node_cells.specs.Cells.{cell_ports}
use Rattle.node_cells.specs.Visits.{LiesAs}
use Rattle.node_cells.specs.declared.cell.NodeCell.{NodeCell}
use Rattle.node_cells.specs.declared.stop_cause.StopCause.{StopCause}
use Rattle.node_cells.specs.declared.stop_cause.StopCause.TheVariants as cause
use Rattle.node_workers.specs.Names.{Names}
use Rattle.node_workers.specs.declared.named_cell.CellNote.{CellNote}
use Rattle.node_workers.specs.declared.named_cell.CellNote.TheVariants as note
use Rattle.proc_api.specs.Reserves.{AreReserves, reserve_at}

-- what is named of a node by its cell
abbrev pub named_node : {P : Type 0} → (P → BoxPicture) → NodeCell P → NamedNode
named_node seen c = record { box = seen c.processor; reserve = reserve_form c.reserve }

-- ---- notes of growths

-- the births that a node knows of, by its note
abbrev pub births_in : List Reserve → CellNote → List Birth
births_in reserves note.Bare = []
births_in reserves (note.Own x) = births_by (reserve_at reserves x.reserve).node (noted x)
births_in reserves (note.Copied x) = births_by (reserve_at reserves x.reserve).node (noted_in x)

-- the first edge of the reserve of which it knows
abbrev pub first_edge_in : List Reserve → CellNote → ℕ
first_edge_in reserves note.Bare = 0
first_edge_in reserves (note.Own x) = (reserve_at reserves x.reserve).first_edge
first_edge_in reserves (note.Copied x) = (reserve_at reserves x.reserve).first_edge

-- The note of node n, one of the named notes: the own one of the node that grows by a reserve, a
-- copy at a node that was born of one, and none at any other.
abbrev pub IsNoteFor : TableId → List Reserve → ℕ → CellNote → Type 0
IsNoteFor notes reserves n note.Bare =
    (k : ℕ) → k < length reserves → (reserve_at reserves k).node ≢ n
IsNoteFor notes reserves n (note.Own x) = (x.seat.table_id ≡ notes)
    × (x.reserve < length reserves) × ((reserve_at reserves x.reserve).node ≡ n)
IsNoteFor notes reserves n (note.Copied x) = (x.seat.table_id ≡ notes)
    × (x.reserve < length reserves) × (holds_node n (reserve_at reserves x.reserve) ≡ true)

-- ---- cells

-- The cell of the node n: its seat is that node's, of the named table, and its note one of the
-- named notes. By the births that this knows of, its ports are among the wires, its reserve is what
-- these leave of the named one, and its box what visits leave of the named box. A growth for which
-- memory was wanting may have left the ports and the reserve as they come.
pub record CellFits {P : Type 0} (x : Names) (seen : P → BoxPicture) (n : ℕ) (c : NodeCell P)
    (stopped : Option StopCause) (own : CellNote) : Type 0 where
  pub seat : IsSeatOf x.identity c.seat
  pub number : c.seat.node ≡ n
  pub note : IsNoteFor x.notes x.identity.sizes.reserves n own
  pub stands : stopped ≢ Some cause.Memory → StandsAmong x.identity.sizes.wires
      (first_edge_in x.identity.sizes.reserves own) (births_in x.identity.sizes.reserves own) n
      (x.node n).reserve (cell_ports c) (reserve_form c.reserve) (seen c.processor)
  pub box : IsBoxLeft stopped (births_in x.identity.sizes.reserves own) n (x.node n).box
      (seen c.processor)
  pub lies : LiesAs seen x.identity stopped c

-- ---- reserves

-- what is named of the nodes that grow by the reserves of a table with these sizes, all of which
-- are born
pub record AreNamedReserves (z : Sizes) (node : ℕ → NamedNode) : Type 0 where
  pub fit : AreReserves z.nodes (length z.wires) z.wires z.reserves
  pub each : (k : ℕ) → k < length z.reserves
      → IsNamedReserve z (reserve_at z.reserves k) (node (reserve_at z.reserves k).node).reserve
  pub born : (k : ℕ) → k < length z.reserves → IsBorn (node (reserve_at z.reserves k).node).box
