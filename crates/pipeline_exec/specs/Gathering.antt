-- The notes of growths after a run, and the nodes that aren't born.
use Rattle.exec_laws.specs.Prelude.{Reserve, holds_node}
use Rattle.exec_laws.specs.declared.edges.NodeStatus.TheVariants as node
use Rattle.exec_laws.specs.declared.growth.Blank.{Blank}
use Rattle.atomic_table.specs.Seated.{TableId}
use Rattle.growth_notes.specs.Notes.{noted, noted_in}
use Rattle.growth_notes.specs.Rules.{AreFirst}
use Rattle.growth_notes.specs.declared.notes.NoteCopy.{NoteCopy}
use Rattle.node_births.specs.declared.noted_growth.NotedGrowth.{NotedGrowth}
use Rattle.node_cells.specs.declared.cell.NodeCell.{NodeCell}
use Rattle.node_cells.specs.declared.stop_cause.StopCause.{StopCause}
use Rattle.node_workers.specs.declared.named_cell.CellNote.{CellNote}
use Rattle.node_workers.specs.declared.named_cell.CellNote.TheVariants as note
use Rattle.node_workers.specs.declared.named_cell.EndedCell.{EndedCell}
use Rattle.proc_api.specs.Reserves.{reserve_at}
use Rattle.std.specs.List.{list_any}
use Rattle.std.specs.Prelude.{List, None, Option, Some, length, map, true, ⊤, ℕ, ◌<◌, ◌==◌, ◌≡◌, ◌≤◌}
use mathlib.Core.Option.{some}
use lib.ListN.{get_elem?}

-- ---- notes

-- the growths of a node's own note
abbrev pub own_growths : CellNote → Option (List NotedGrowth)
own_growths note.Bare = None
own_growths (note.Own x) = Some (noted x)
own_growths (note.Copied x) = None

-- the growths of this reserve that a copy has
pub record CopiedGrowths : Type 0 where
  pub reserve : ℕ
  pub growths : List NotedGrowth

abbrev pub copied_in : NoteCopy NotedGrowth → CopiedGrowths
copied_in x = record { reserve = x.reserve; growths = noted_in x }

abbrev pub copied_growths : CellNote → Option CopiedGrowths
copied_growths note.Bare = None
copied_growths (note.Own x) = None
copied_growths (note.Copied x) = Some (copied_in x)

-- the note is this copy
abbrev pub IsCopyIn : CellNote → NoteCopy NotedGrowth → Type 0
IsCopyIn x c = x ≡ note.Copied c

-- the note is one of this table of notes
abbrev pub IsOfNotes : TableId → CellNote → Type 0
IsOfNotes id note.Bare = ⊤
IsOfNotes id (note.Own x) = x.seat.table_id ≡ id
IsOfNotes id (note.Copied x) = x.seat.table_id ≡ id

module _ {P : Type 0} where
  -- a cell but for the copy that it has
  abbrev pub without_copy : EndedCell P
      → NodeCell P × Option StopCause × Option (List NotedGrowth)
  without_copy d = (d.cell, d.stopped, own_growths d.note)

  abbrev pub owns_in : List (EndedCell P) → List (Option (List NotedGrowth))
  owns_in cells = map (λ (d : EndedCell P). own_growths d.note) cells

  abbrev pub copies_in : List (EndedCell P) → List (Option CopiedGrowths)
  copies_in cells = map (λ (d : EndedCell P). copied_growths d.note) cells

  abbrev pub AreOfNotes : TableId → List (EndedCell P) → Type 0
  AreOfNotes id cells =
      (n : ℕ) (d : EndedCell P) → get_elem? cells n ≡ some d → IsOfNotes id d.note

  -- The growths of the copy at node n are the first ones of those that the node notes which grows
  -- by the same reserve.
  abbrev pub HasFirstGrowths : List Reserve → List (EndedCell P) → ℕ → Type 0
  HasFirstGrowths reserves cells n = (c : CopiedGrowths) (own : List NotedGrowth)
      → get_elem? (copies_in cells) n ≡ some (Some c)
      → get_elem? (owns_in cells) (reserve_at reserves c.reserve).node ≡ some (Some own)
      → AreFirst c.growths own

  -- so it is at each of the first k nodes
  abbrev pub HaveFirstGrowths : List Reserve → List (EndedCell P) → ℕ → Type 0
  HaveFirstGrowths reserves cells k = (n : ℕ) → n < k → HasFirstGrowths reserves cells n

  -- the copies of the first k nodes were gathered, and the later ones are as they were
  pub record AreGatheredTo (reserves : List Reserve) (k : ℕ) (first cells : List (EndedCell P))
      : Type 0 where
    pub same : map without_copy cells ≡ map without_copy first
    pub later : (n : ℕ) → k ≤ n → get_elem? (copies_in cells) n ≡ get_elem? (copies_in first) n
    pub gathered : HaveFirstGrowths reserves first k

  -- ---- nodes that aren't born

  -- the node n is among the blanks that are left to node m
  abbrev pub IsLeft : List (EndedCell P) → (m n : ℕ) → Type 0
  IsLeft cells m n = (e : EndedCell P) → get_elem? cells m ≡ some e
      → list_any (λ (b : Blank). b.node == n) e.cell.reserve.blanks.items ≡ true

  -- each of the first k nodes that the reserve holds is born, or left to the reserve's node
  abbrev pub AreBornOrLeft : List (EndedCell P) → Reserve → ℕ → Type 0
  AreBornOrLeft cells r k = (n : ℕ) (d : EndedCell P) → n < k → holds_node n r ≡ true
      → get_elem? cells n ≡ some d → d.cell.mark.state ≡ node.Unborn → IsLeft cells r.node n

  -- so it is by the first k reserves
  abbrev pub AreAllBornOrLeft : List Reserve → List (EndedCell P) → ℕ → Type 0
  AreAllBornOrLeft reserves cells k = (j : ℕ) → j < k
      → AreBornOrLeft cells (reserve_at reserves j) (length cells)
