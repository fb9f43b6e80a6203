use Rattle.node_workers.proofs.Imports.{inl, offered_more}
use Rattle.node_workers.proofs.worker.visit.Goals as goal

pub returns-in-Waits-clause-offers : goal.returns-in-Waits-clause-offers
returns-in-Waits-clause-offers g c = (
  _,
  offered_more c.visit_in_place-end.ensures.worker.offers.1 (inl c.offer_again.ensures.offered),
)

pub returns-in-Grows-clause-offers : goal.returns-in-Grows-clause-offers
returns-in-Grows-clause-offers g c = (
  _,
  offered_more c.visit_in_place-end.ensures.worker.offers.1
      (inl c.offer_again-in-Grows.ensures.offered),
)
