use Rattle.node_workers.proofs.Imports.{offers-both}
use Rattle.node_workers.proofs.worker.visit_in_place.Goals as goal

pub returns-in-Grows-clause-worker : goal.returns-in-Grows-clause-worker
returns-in-Grows-clause-worker g c = let grew = c.grow_in_place.ensures.worker in record {
  seat = grew.seat;
  pass = grew.pass;
  offers = offers-both _ _ _ _ c.run_in_place.ensures.worker.offers grew.offers;
}
