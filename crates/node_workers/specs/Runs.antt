-- A run of all cells: when it may be made, and what it gives back.
use Rattle.std.specs.Prelude.{All, List, Vec, length, ℕ, ◌<◌, ◌≡◌, ◌≤◌}
use Rattle.std.specs.declared.alloc.Global.{Global}
use Rattle.exec_laws.specs.Prelude.{BoxPicture}
use Rattle.exec_table.specs.Seats.{Identity, IsRootOf, identity_of}
use Rattle.exec_table.specs.declared.rule.ExecTable.{ExecTable}
use Rattle.exec_table.specs.declared.rule.RootSeat.{RootSeat}
use Rattle.node_births.specs.Left.{NamedNode}
use Rattle.node_cells.specs.declared.cell.NodeCell.{NodeCell}
use Rattle.node_workers.specs.Ended.{AreEnded, AreStored}
use Rattle.node_workers.specs.Workers.{HasSpare, WorkerHasEnded}
use Rattle.node_workers.specs.declared.run.Ended.{Ended}
use Rattle.node_workers.specs.declared.run.NotStarted.{NotStarted}

-- so many workers may run the cells of the table's nodes, with room for so many numbers
pub record MayRunCells {P : Type 0} (seen : P → BoxPicture) (t : Identity) (root : RootSeat)
    (cells : List (NodeCell P)) (workers queued : ℕ) : Type 0 where
  pub some_workers : 1 ≤ workers
  pub few_workers : workers ≤ 16
  pub some_room : 0 < queued
  pub spare : HasSpare t workers root
  pub stored : AreStored seen t cells

-- What a run gives back: the table and its root, so many workers, each of which saw the end, the
-- cells of so many nodes, and the notes that these have.
pub record RunHasEnded {P : Type 0} (seen : P → BoxPicture) (t : Identity)
    (named : ℕ → NamedNode) (table : ExecTable) (workers nodes : ℕ) (r : Ended P) : Type 0 where
  pub same_table : r.table ≡ table
  pub root_of : IsRootOf (identity_of table) r.root
  pub seats : All (WorkerHasEnded (identity_of table)) r.workers.items
  pub one_each : length r.workers.items ≡ workers
  pub ended : AreEnded seen t named nodes r.cells.items
  pub noted : r.notes.table.shared.table_id ≡ ended.notes

-- what is given back of a run that didn't start: all is as it was
pub record IsAsItWas {P : Type 0} (table : ExecTable) (root : RootSeat)
    (cells : Vec (NodeCell P) Global) (r : NotStarted P) : Type 0 where
  pub table_back : r.table ≡ table
  pub root_back : r.root ≡ root
  pub cells_back : r.cells.items ≡ cells.items
