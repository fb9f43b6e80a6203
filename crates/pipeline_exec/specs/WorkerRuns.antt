-- A run by workers.
use Rattle.exec_laws.specs.Prelude.{BoxPicture, Reserve, Wire}
use Rattle.node_births.specs.LeftNodes.{IsGraphBefore}
use Rattle.node_cells.specs.NewCells.{AreNewCells, AreNewReserves, sizes_of}
use Rattle.node_cells.specs.declared.cell.NodeCell.{NodeCell}
use Rattle.node_cells.specs.declared.new_cells.Cells.{Cells}
use Rattle.node_cells.specs.declared.stop_cause.StopCause.{StopCause}
use Rattle.node_cells.specs.declared.stop_cause.StopCause.TheVariants as cause
use Rattle.node_ends.specs.RunEnds.{NodesEndHolds}
use Rattle.node_ends.specs.declared.node_ends.NodesEnd.{NodesEnd}
use Rattle.node_ends.specs.declared.node_ends.NodesEnd.TheVariants as nodes_end
use Rattle.node_workers.specs.declared.named_cell.EndedCell.{EndedCell}
use Rattle.pipeline_exec.specs.Ends.{Begun, IsFaultEnd}
use Rattle.pipeline_exec.specs.Gathering.{AreAllBornOrLeft, HaveFirstGrowths}
use Rattle.pipeline_exec.specs.declared.run.ExecEnd.{ExecEnd}
use Rattle.pipeline_exec.specs.declared.run.ExecEnd.TheVariants as end
use Rattle.std.specs.Prelude.{List, None, Option, Some, length, map, ℕ, ◌<◌, ◌≡◌, ◌≢◌}
use mathlib.Core.Option.{some}
use lib.ListN.{get_elem?}

module _ {P : Type 0} where
  abbrev pub processor_of : NodeCell P → P
  processor_of c = c.processor

  abbrev pub cell_of : EndedCell P → NodeCell P
  cell_of d = d.cell

  -- ---- where the run was stopped

  -- the run was stopped at the node of this cell
  pub record IsStoppedAt (cells : List (EndedCell P)) (n : ℕ) (s : StopCause) : Type 0 where
    pub in_range : n < length cells
    pub stopped : (d : EndedCell P) → get_elem? cells n ≡ some d → d.stopped ≡ Some s

  abbrev pub IsUnstopped : EndedCell P → Type 0
  IsUnstopped d = d.stopped ≡ None

  -- the run was stopped at none of the first so many nodes
  abbrev pub AreUnstopped : ℕ → List (EndedCell P) → Type 0
  AreUnstopped k cells =
      (n : ℕ) (d : EndedCell P) → n < k → get_elem? cells n ≡ some d → IsUnstopped d

  abbrev pub HadMemory : EndedCell P → Type 0
  HadMemory d = d.stopped ≢ Some cause.Memory

  -- at none of the first so many nodes was it stopped for want of memory
  abbrev pub HaveHadMemory : ℕ → List (EndedCell P) → Type 0
  HaveHadMemory k cells =
      (n : ℕ) (d : EndedCell P) → n < k → get_elem? cells n ≡ some d → HadMemory d

  -- memory was wanting for no growth; the copies of notes are the first growths of these, and each
  -- node that isn't born is left to its reserve's
  pub record AreWhole (reserves : List Reserve) (cells : List (EndedCell P)) : Type 0 where
    pub had_memory : HaveHadMemory (length cells) cells
    pub first : HaveFirstGrowths reserves cells (length cells)
    pub left : AreAllBornOrLeft reserves cells (length reserves)

  -- why the run of the cells that were left was stopped, and where, if it was and memory wasn't
  -- wanting
  abbrev pub IsStopFor : List Reserve → List (EndedCell P) → Option (ℕ × StopCause) → Type 0
  IsStopFor reserves cells None = AreWhole reserves cells × AreUnstopped (length cells) cells
  IsStopFor reserves cells (Some (n, cause.Fault f)) =
      AreWhole reserves cells × IsStoppedAt cells n (cause.Fault f)
  IsStopFor reserves cells (Some (n, cause.Flaw f)) =
      AreWhole reserves cells × IsStoppedAt cells n (cause.Flaw f)
  IsStopFor reserves cells (Some (n, cause.Memory)) = n ≡ 0

-- ---- before the run

-- the cells of a new table for so many workers, which are those of this graph
pub record IsUnrun {P : Type 0} (seen : P → BoxPicture) (b : Begun) (workers : ℕ)
    (c : Cells P) : Type 0 where
  pub boxes : List P
  pub boxes_are : b.boxes ≡ map seen boxes
  pub graph : IsGraphBefore b
  pub new : AreNewCells seen (sizes_of (length boxes) b.wires b.reserves workers) boxes c
  pub whole : AreNewReserves b.ranks b.reserves b.boxes c.cells.items

abbrev pub AreUnrun : {P : Type 0} → (P → BoxPicture) → ℕ → Cells P → Type 0
AreUnrun seen workers c = (b : Begun) × IsUnrun seen b workers c

-- ---- the end

-- the end of a run that was stopped at the node n
abbrev pub IsStopEnd : ℕ → StopCause → ExecEnd → Type 0
IsStopEnd n (cause.Fault f) e = IsFaultEnd e n f
IsStopEnd n (cause.Flaw f) e = e ≡ end.BadGrowth n f
IsStopEnd n cause.Memory e = e ≡ end.Memory

-- the end of the run of a graph, by that of its cells
abbrev pub IsEndOf : NodesEnd → ExecEnd → Type 0
IsEndOf nodes_end.Done e = e ≡ end.Done
IsEndOf (nodes_end.Stuck report n) e = e ≡ end.Stuck report n
IsEndOf (nodes_end.Fault n f) e = IsFaultEnd e n f
IsEndOf (nodes_end.Grows n) e = e ≡ end.Memory

-- it is that of cells with these boxes before their end and after it
abbrev pub EndsAs : List Wire → (before after : List BoxPicture) → ExecEnd → Type 0
EndsAs wires before after e =
    (x : NodesEnd) × (NodesEndHolds x wires before after × IsEndOf x e)
