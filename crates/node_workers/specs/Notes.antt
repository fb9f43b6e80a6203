-- The notes of growths before a run.
use Rattle.std.specs.Prelude.{List, None, [], length, map, ℕ, ◌<◌, ◌≡◌, ◌≢◌}
use mathlib.Core.Option.{some}
use lib.ListN.{get_elem?}
use Rattle.atomic_table.specs.Seated.{TableId}
use Rattle.exec_laws.specs.Prelude.{Reserve}
use Rattle.growth_notes.specs.Notes.{IsRootOf, noted, reserve_count}
use Rattle.growth_notes.specs.declared.notes.GrowthNotes.{GrowthNotes}
use Rattle.growth_notes.specs.declared.notes.NotesRoot.{NotesRoot}
use Rattle.node_births.specs.declared.noted_growth.NotedGrowth.{NotedGrowth}
use Rattle.node_cells.specs.declared.cell.NodeCell.{NodeCell}
use Rattle.node_workers.specs.Rooms.{node_cell}
use Rattle.node_workers.specs.declared.named_cell.CellNote.{CellNote}
use Rattle.node_workers.specs.declared.named_cell.CellNote.TheVariants as note
use Rattle.node_workers.specs.declared.named_cell.NamedCell.{NamedCell}
use Rattle.proc_api.specs.Reserves.{reserve_at}

-- notes for all reserves, of which none was handed out
pub record HasNotesFor (reserves : List Reserve) (notes : GrowthNotes NotedGrowth)
    (root : NotesRoot NotedGrowth) : Type 0 where
  pub root_of : IsRootOf notes root
  pub none_made : root.made ≡ 0
  pub one_each : reserve_count notes ≡ length reserves

-- The note of node n, after the first k reserves have got one: the own one of the node that grows
-- by such a reserve, by which nothing grew, and else none.
abbrev pub IsFirstNote : TableId → List Reserve → (k n : ℕ) → CellNote → Type 0
IsFirstNote notes reserves k n note.Bare = (j : ℕ) → j < k → (reserve_at reserves j).node ≢ n
IsFirstNote notes reserves k n (note.Own x) = (x.seat.table_id ≡ notes) × (x.reserve < k)
    × ((reserve_at reserves x.reserve).node ≡ n) × (noted x ≡ [])
IsFirstNote notes reserves k n (note.Copied x) = ⊥

module _ {P J : Type 0} (notes : TableId) (reserves : List Reserve) where
  pub record IsFirstNamed (k n : ℕ) (d : NamedCell P J) : Type 0 where
    pub note_is : IsFirstNote notes reserves k n d.note
    pub going : d.stopped ≡ None

  -- cells that can lie on the shelf, with the notes of the first k reserves
  pub record HaveFirstNotes (k : ℕ) (cells : List (NodeCell P)) (named : List (NamedCell P J))
      : Type 0 where
    pub same : map node_cell named ≡ cells
    pub each : (n : ℕ) (d : NamedCell P J) → get_elem? named n ≡ some d → IsFirstNamed k n d
