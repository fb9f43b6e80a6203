-- Charged nodes are put into the queue, or stay with the worker.
use Rattle.node_cells.proofs.Imports.{arith, BoxPicture, Identity, NodeCell, None, Option, [], ap, append-nil, cell_ports, subst, sym, ℕ, ◌++◌, ◌∙◌, ◌≡◌}
use Rattle.node_cells.specs.Turns.{FollowsAnswer, IsCarried, IsPrepared, Queues, Runs, Stays, TakesTurns, Turn, runs_more, runs_none, charged_by, charges_more, charges_none}
use Rattle.node_cells.specs.declared.stop_cause.StopCause.{StopCause}
use Rattle.node_ports.specs.Peers.{CarriesNext}
use Rattle.node_ports.specs.declared.actions.Carry.{Carry}
use Rattle.node_ports.specs.declared.actions.Carry.TheVariants as carry
use Rattle.task_queue.specs.Tasks.{AreOffered, IsOfferedNext, OffersNumbers, SharesNumber, offered_more, offered_none, offered_shared}
use Rattle.proc_api.specs.declared.status.Status.{Status}
use Rattle.task_queue.proofs.KeptNumbers.{offers-both, offers-none}
use Rattle.task_queue.specs.declared.queue.TaskQueue.{TaskQueue}
use Rattle.task_queue.specs.declared.tasks.WorkerTasks.{WorkerTasks}

pub queues-none : {P : Type 0} (t : Identity) (q : TaskQueue) (c : NodeCell P) (w : WorkerTasks)
    → Queues t q c c w w
queues-none t q c w = record { charged = _; charges = charges_none; offered = offered_none }

-- a number that was kept may be put into the queue afterwards
pub queues-shared : {P : Type 0} {t : Identity} {q : TaskQueue} {old new : NodeCell P}
    {before between after : WorkerTasks} → Queues t q old new before between
    → SharesNumber between after → Queues t q old new before after
queues-shared h shares = record {
  charged = h.charged;
  charges = h.charges;
  offered = offered_shared h.offered shares;
}

module _ {P : Type 0} {t : Identity} {q : TaskQueue} {old mid : NodeCell P}
    {before between : WorkerTasks} (h : Queues t q old mid before between) {r : Carry} where
  -- a further action was carried out, which charged no node
  pub queues-silent : (s : Carry) (new : NodeCell P)
      → CarriesNext t r (cell_ports mid) new.ports new.seat → r ≡ s → charged_by s ≡ []
      → Queues t q old new before between
  queues-silent s new c is none = record {
    charged = _;
    charges = charges_more h.charges c;
    offered = subst (λ ns. AreOffered q before ns between)
        (sym (ap (λ ns. h.charged ++ ns) (ap charged_by is ∙ none) ∙ append-nil h.charged))
        h.offered;
  }

  -- or one that was offered
  pub queues-charged : (n : ℕ) (new : NodeCell P) (after : WorkerTasks)
      → CarriesNext t r (cell_ports mid) new.ports new.seat → r ≡ carry.Charged n
      → IsOfferedNext q n between after → Queues t q old new before after
  queues-charged n new after c is offered = record {
    charged = _;
    charges = charges_more h.charges c;
    offered = subst (λ ns. AreOffered q before ns after)
        (sym (ap (λ s. h.charged ++ charged_by s) is)) (offered_more h.offered offered);
  }

module _ {P : Type 0} {seen : P → BoxPicture} {t : Identity} {q : TaskQueue} where
  pub turn-of : {o : Option StopCause} {mid new prepared carried : NodeCell P}
      {between after : WorkerTasks} {s : Status} → Stays seen None mid prepared
      → IsPrepared seen t prepared s → Queues t q prepared carried between after
      → IsCarried seen t carried s → Stays seen o carried new
      → FollowsAnswer s o (seen carried.processor) (seen new.processor)
      → Turn seen t q o mid new between after
  turn-of stays prepares queues carries leaves follows = search arith

  turn-offers : {o : Option StopCause} {old new : NodeCell P} {before after : WorkerTasks}
      → Turn seen t q o old new before after → OffersNumbers q before after
  turn-offers turn = (turn.queues.charged, turn.queues.offered)

  module _ {old : NodeCell P} {before : WorkerTasks} where
    runs-offers : {new : NodeCell P} {after : WorkerTasks} → Runs seen t q old before new after
        → OffersNumbers q before after
    runs-offers runs_none = offers-none q before
    runs-offers {after} (runs_more {between} h turn) = offers-both q before between after
        (runs-offers h) (turn-offers turn)

    -- over all turns nodes were offered, and that is all
    pub turns-offer : {o : Option StopCause} {new : NodeCell P} {after : WorkerTasks}
        → TakesTurns seen t q o old new before after → OffersNumbers q before after
    turns-offer {after} h = offers-both q before h.tasks after (runs-offers h.earlier)
        (turn-offers h.last)
