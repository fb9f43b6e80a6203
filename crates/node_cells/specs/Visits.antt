-- A visit of a node: what it does by the state in which the node's cell lies, and how it leaves it.
use Rattle.std.specs.Prelude.{None, Option, Some, ◌≡◌}
use Rattle.exec_laws.specs.declared.edges.DueCall.TheVariants as call
use Rattle.exec_laws.specs.declared.edges.NodeStatus.{NodeStatus}
use Rattle.exec_laws.specs.declared.edges.NodeStatus.TheVariants as node
use Rattle.node_cells.specs.Prelude.{BoxPicture, Identity, IsSeatOf, NodeCell}
use Rattle.node_cells.specs.Stored.{IsStored}
use Rattle.node_cells.specs.Turns.{Fetches, IsDue, IsStopped, KeepsProcessor, Stays, TakesTurns}
use Rattle.node_cells.specs.declared.node_run.RunEnd.{RunEnd}
use Rattle.node_cells.specs.declared.node_run.RunEnd.TheVariants as run
use Rattle.node_cells.specs.declared.stop_cause.StopCause.{StopCause}
use Rattle.node_cells.specs.declared.stop_cause.StopCause.TheVariants as cause
use Rattle.task_queue.specs.declared.queue.TaskQueue.{TaskQueue}
use Rattle.task_queue.specs.declared.tasks.WorkerTasks.{WorkerTasks}

-- A cell at which nobody stopped the run is stored as its node's state says. Else its seat is held
-- and in its turn, so that something stays pending; a growth for which memory was wanting may have
-- left anything.
abbrev pub LiesAs : {P : Type 0} → (P → BoxPicture) → Identity → Option StopCause → NodeCell P
    → Type 0
LiesAs seen t None c = IsStored seen t c
LiesAs seen t (Some (cause.Fault f)) c = IsStopped seen t (cause.Fault f) c
LiesAs seen t (Some (cause.Flaw f)) c = IsStopped seen t (cause.Flaw f) c
LiesAs seen t (Some cause.Memory) c = IsSeatOf t c.seat

-- what a visit that stops nothing came to, by the state in which it leaves the node
abbrev pub run_end_of : NodeStatus → RunEnd
run_end_of node.Resting = run.Rests
run_end_of node.Due = run.Rests
run_end_of (node.AtWork call.Work) = run.Rests
run_end_of (node.AtWork call.Schedule) = run.Waits
run_end_of (node.AtWork call.Expand) = run.Grows
run_end_of node.Over = run.Rests
run_end_of node.Unborn = run.Rests

module _ {P : Type 0} (seen : P → BoxPicture) (t : Identity) (q : TaskQueue)
    (o : Option StopCause) where
  -- a node that is due took turns
  pub record RunsDue (old new : NodeCell P) (before after : WorkerTasks) : Type 0 where
    pub due : IsDue seen t old
    pub turns : TakesTurns seen t q o old new before after

  -- the node began, and took turns
  pub record Begins (old new : NodeCell P) (before after : WorkerTasks) : Type 0 where
    pub begun : NodeCell P
    pub keeps : KeepsProcessor old begun
    pub runs : RunsDue begun new before after

  -- a step of work with its device was made, and then the node took turns, or that was all
  pub data Resumes (old new : NodeCell P) (before after : WorkerTasks) : Type 0 where
    resumes_turns : (called : NodeCell P)
        → Fetches None (seen old.processor) (seen called.processor)
        → RunsDue called new before after → Resumes old new before after
    resumes_once : Fetches o (seen old.processor) (seen new.processor) → after ≡ before
        → Resumes old new before after

  -- Only a node that never began, one at rest and one between two steps of work with its device
  -- are due a visit. One by which the graph is to grow waits for that.
  abbrev pub VisitsFrom : NodeStatus → (old new : NodeCell P) → (before after : WorkerTasks)
      → Type 0
  VisitsFrom node.Resting old new before after = Begins old new before after
  VisitsFrom node.Due old new before after = Begins old new before after
  VisitsFrom (node.AtWork call.Work) old new before after = ⊥
  VisitsFrom (node.AtWork call.Schedule) old new before after = Resumes old new before after
  VisitsFrom (node.AtWork call.Expand) old new before after = (new ≡ old) × (after ≡ before)
  VisitsFrom node.Over old new before after = (new ≡ old) × (after ≡ before)
  VisitsFrom node.Unborn old new before after = (new ≡ old) × (after ≡ before)

  abbrev pub Visits : (old new : NodeCell P) → (before after : WorkerTasks) → Type 0
  Visits old new before after = VisitsFrom old.mark.state old new before after

-- how a visit leaves the cell of a node; a blank box is left alone
pub record LeavesCell {P : Type 0} (seen : P → BoxPicture) (t : Identity) (o : Option StopCause)
    (old new : NodeCell P) : Type 0 where
  pub stays : Stays seen o old new
  pub blank : (seen old.processor).spec ≡ None → new ≡ old
  pub lies : LiesAs seen t o new
