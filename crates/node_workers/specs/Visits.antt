-- What a worker's visit of a node does.
use Rattle.std.specs.Prelude.{None, Option, Some, true, ◌≡◌, ◌≢◌}
use Rattle.atomic_table.specs.Table.{rest}
use Rattle.atomic_table.specs.declared.shared.Seat.{Seat}
use Rattle.core_laws.specs.Steps.{nothing}
use Rattle.core_laws.specs.declared.types.Step.TheVariants as step
use Rattle.exec_laws.specs.Prelude.{BoxPicture}
use Rattle.exec_laws.specs.declared.edges.NodeStatus.{NodeStatus}
use Rattle.exec_table.specs.Seats.{Identity, IsWorkerOf, WorkerDoes}
use Rattle.exec_table.specs.declared.rule.WorkerSeat.{WorkerSeat}
use Rattle.node_cells.specs.Stops.{StopHolds}
use Rattle.node_cells.specs.Visits.{RunsDue, Visits, run_end_of}
use Rattle.node_cells.specs.declared.cell.NodeCell.{NodeCell}
use Rattle.node_cells.specs.declared.node_run.RunEnd.{RunEnd}
use Rattle.node_cells.specs.declared.node_run.RunEnd.TheVariants as run
use Rattle.node_cells.specs.declared.stop_cause.StopCause.{StopCause}
use Rattle.task_queue.specs.Queues.{IsPassOf}
use Rattle.task_queue.specs.Tasks.{OffersNumbers}
use Rattle.task_queue.specs.declared.queue.TaskQueue.{TaskQueue}
use Rattle.task_queue.specs.declared.seat.Holding.{Holding}
use Rattle.task_queue.specs.declared.tasks.WorkerTasks.{WorkerTasks}

-- what a worker visits nodes with: its seat of the table, and a pass of the queue
pub record MayVisit (t : Identity) (q : TaskQueue) (s : WorkerSeat) (tasks : WorkerTasks) : Type 0
  where
    pub seat : IsWorkerOf t s
    pub pass : IsPassOf q tasks.pass

-- it has them still, and offered numbers, which is all that it did with the queue
pub record HasVisited (t : Identity) (q : TaskQueue) (s : WorkerSeat)
    (before after : WorkerTasks) : Type 0 where
  pub seat : IsWorkerOf t s
  pub pass : IsPassOf q after.pass
  pub offers : OffersNumbers q before after

-- a seat of the shelf is as it was, but for the value in the slot that it took last
pub record ChangesFirst {V : Type 0} (old new : Seat (Option V) Holding) : Type 0 where
  pub table : new.table_id ≡ old.table_id
  pub view : new.me.0 ≡ old.me.0
  pub others : rest new.me.1 ≡ rest old.me.1

-- What came of a visit, by the cause for which the run was stopped, and the state in which the node
-- is left: nothing more is due of a node at which it was stopped.
abbrev pub visit_end : Option StopCause → NodeStatus → RunEnd
visit_end None s = run_end_of s
visit_end (Some c) s = run.Rests

-- what came of a growth of a node
module _ {P : Type 0} (seen : P → BoxPicture) (t : Identity) (q : TaskQueue)
    (o : Option StopCause) where
  -- the node grew, for which its box acted, its new nodes were offered, and it took turns; or its
  -- growth stopped the run
  pub data GrowsOn (new : NodeCell P) (before after : WorkerTasks) : Type 0 where
    grows_turns : (grown : NodeCell P) (between : WorkerTasks)
        → (seen grown.processor).notes.acted ≡ true → OffersNumbers q before between
        → RunsDue seen t q o grown new between after → GrowsOn new before after
    grows_once : (s : StopCause) → o ≡ Some s → StopHolds seen s new → after ≡ before
        → GrowsOn new before after

-- a cell at which the run was stopped before is left as it is, and each other one is visited
abbrev pub VisitsCell : {P : Type 0} → (P → BoxPicture) → Identity → TaskQueue
    → (was is : Option StopCause) → (old new : NodeCell P) → (before after : WorkerTasks) → Type 0
VisitsCell seen t q None is old new before after = Visits seen t q is old new before after
VisitsCell seen t q (Some c) is old new before after =
    (is ≡ Some c) × (new ≡ old) × (after ≡ before)

-- where a cause was noted at a node, the worker told all others to stop
abbrev pub Stops : Identity → WorkerSeat → Option StopCause → Option StopCause → Type 0
Stops t s old new = new ≢ old → WorkerDoes t s step.Stop nothing
