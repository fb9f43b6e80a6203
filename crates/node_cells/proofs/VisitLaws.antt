-- What a visit of a node does, and what it leaves of the node's cell.
use Rattle.node_cells.proofs.Imports.{arith, BoxPicture, Identity, IsSeatOf, NodeCell, Option, Some, subst, sym, ◌≡◌}
use Rattle.exec_laws.specs.declared.edges.NodeStatus.{NodeStatus}
use Rattle.node_cells.proofs.QueueLaws.{turns-offer}
use Rattle.node_cells.specs.Stops.{StopHolds}
use Rattle.node_cells.specs.Stored.{StoredAs}
use Rattle.node_cells.specs.Visits.{LiesAs, Resumes, Visits, VisitsFrom, resumes_once, resumes_turns}
use Rattle.node_cells.specs.declared.stop_cause.StopCause.{StopCause}
use Rattle.task_queue.proofs.KeptNumbers.{offers-none}
use Rattle.task_queue.specs.Tasks.{OffersNumbers}
use Rattle.task_queue.specs.declared.queue.TaskQueue.{TaskQueue}
use Rattle.task_queue.specs.declared.tasks.WorkerTasks.{WorkerTasks}

module _ {P : Type 0} (seen : P → BoxPicture) (t : Identity) where
  pub seat-as : (s : NodeStatus) (c : NodeCell P) → StoredAs seen t s c → IsSeatOf t c.seat
  seat-as s c h = grind arith

  -- the seat of a cell is one of the table's, whatever stopped the run at it
  pub lies-seat : (o : Option StopCause) (c : NodeCell P) → LiesAs seen t o c → IsSeatOf t c.seat
  lies-seat o c h = grind (arith, seat-as)

  -- what stopped the run at a cell holds of it
  pub lies-stop : (s : StopCause) (c : NodeCell P) → LiesAs seen t (Some s) c
      → StopHolds seen s c
  lies-stop s c h = grind arith

  module _ (q : TaskQueue) (o : Option StopCause) (old new : NodeCell P)
      (before after : WorkerTasks) where
    -- what a visit does by the state in which the cell lay
    pub visits-as : (s : NodeStatus) → old.mark.state ≡ s
        → VisitsFrom seen t q o s old new before after → Visits seen t q o old new before after
    visits-as s is h = subst (λ z. VisitsFrom seen t q o z old new before after) (sym is) h

    pub resumes-offer : Resumes seen t q o old new before after → OffersNumbers q before after
    resumes-offer (resumes_turns called fetches runs) = turns-offer runs.turns
    resumes-offer (resumes_once fetches same) =
        subst (OffersNumbers q before) (sym same) (offers-none q before)
