use Rattle.node_workers.proofs.Imports.{IsPassOf, OffersNumbers, WorkerTasks, inl, offered_more, offers-none, subst, sym}
use Rattle.node_workers.proofs.run.offer_first.Goals as goal
use Rattle.node_workers.proofs.run.offer_first.Goals.{else-eq, then-eq}

pub loop-k-init : goal.loop-k-init
loop-k-init g c = (c.requires.pass, offers-none _ _)

pub loop-k-preserved : goal.loop-k-preserved
loop-k-preserved g c = elim c.if-eq.branch [
  | then-eq w ↦ subst (λ (t : WorkerTasks). IsPassOf c.args.queue.now t.pass × OffersNumbers
      c.args.queue.now c.args.tasks.now t) (sym w.tasks-is) (
        w.offer.ensures.pass,
        (_, offered_more c.loop-k.invariant.1.1 (inl w.offer.ensures.offered)),
      )
  | else-eq w ↦ rw w.tasks-is c.loop-k.invariant
]
