-- What workers share, and what each has.
use Rattle.std.specs.Prelude.{All, List, length, ℕ, ◌+◌, ◌≡◌, ◌≤◌, ◌⊎◌}
use Rattle.core_laws.specs.Steps.{seen as tells_seen}
use Rattle.core_laws.specs.declared.types.Step.TheVariants as step
use Rattle.exec_table.specs.Seats.{Identity, IsRootOf, IsWorkerOf, WorkerDoes, identity_of, seen_of}
use Rattle.exec_table.specs.declared.rule.RootSeat.{RootSeat}
use Rattle.exec_table.specs.declared.rule.WorkerSeat.{WorkerSeat}
use Rattle.exec_table.specs.declared.types.Seen.{Seen}
use Rattle.exec_table.specs.declared.types.Seen.TheVariants.{Stopped, Zero}
use Rattle.growth_notes.specs.Notes.{reserve_count}
use Rattle.node_workers.specs.Named.{AreNamedReserves}
use Rattle.node_workers.specs.Names.{Names}
use Rattle.node_workers.specs.declared.worker.Shared.{Shared}
use Rattle.node_workers.specs.declared.worker.Worker.{Worker}
use Rattle.task_queue.specs.Numbers.{total_over}
use Rattle.task_queue.specs.Queues.{IsPassOf}
use Rattle.task_queue.specs.Rules.{all_shares}
use Rattle.task_queue.specs.Shelves.{IsIdleSeatOf, parts, places}

-- A worker of the table saw, at a moment, that nothing is pending or that the run was stopped.
pub record SawEnd (t : Identity) (s : WorkerSeat) : Type 0 where
  pub seen : Seen
  pub is_end : (seen ≡ Zero) ⊎ (seen ≡ Stopped)
  pub saw : WorkerDoes t s step.See (tells_seen (seen_of seen))

pub record WorkerHasEnded (t : Identity) (s : WorkerSeat) : Type 0 where
  pub seat : IsWorkerOf t s
  pub saw : SawEnd t s

-- the root of the table, from which so many workers more may come
pub record HasSpare (t : Identity) (more : ℕ) (s : RootSeat) : Type 0 where
  pub root : IsRootOf t s
  pub spare : s.seat.me.0.made + more ≤ t.sizes.workers

module _ {P J : Type 0} where
  -- The table and the notes are the named ones, with a note for each reserve, and the places on the
  -- shelf are few enough for each to be kept.
  pub record IsShared (x : Names) (s : Shared P J) : Type 0 where
    pub table : identity_of s.table ≡ x.identity
    pub few : places s.shelf ≤ 256
    pub notes_are : s.notes.table.shared.table_id ≡ x.notes
    pub one_each : reserve_count s.notes ≡ length x.identity.sizes.reserves
    pub reserves : AreNamedReserves x.identity.sizes x.node

  -- a worker with seats of the shared table and shelf and a pass of the queue, which holds no cell
  pub record IsWorkerAt (s : Shared P J) (w : Worker P J) : Type 0 where
    pub seat : IsWorkerOf (identity_of s.table) w.seat
    pub pass : IsPassOf s.queue w.tasks.pass
    pub shelf : IsIdleSeatOf s.shelf w.shelf

  -- the same, and the worker saw that it is to end
  pub record IsWorkerOver (s : Shared P J) (w : Worker P J) : Type 0 where
    pub at : IsWorkerAt s w
    pub saw : SawEnd (identity_of s.table) w.seat

  -- the worker's share of the shelf
  abbrev pub parts_of : Worker P J → ℕ
  parts_of w = parts w.shelf

  -- workers that share all of the shelf
  pub record AreWorkersOf (s : Shared P J) (workers : List (Worker P J)) : Type 0 where
    pub each : All (IsWorkerAt s) workers
    pub whole : total_over parts_of workers ≡ all_shares
