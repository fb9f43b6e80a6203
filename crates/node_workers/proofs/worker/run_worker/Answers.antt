use Rattle.node_workers.proofs.Imports.{inr, ◌∙◌}
use Rattle.node_workers.proofs.worker.run_worker.Goals as goal

pub returns-in-Stopped-clause-worker : goal.returns-in-Stopped-clause-worker
returns-in-Stopped-clause-worker g c = let at = c.loop.invariant.0 in record {
  at = record { seat = c.see.ensures.worker; pass = at.pass; shelf = at.shelf };
  saw = record {
    seen = c.see.result;
    is_end = inr c.in-Stopped.is;
    saw = c.see.ensures.told;
  };
}

pub returns-in-Zero-see : goal.returns-in-Zero-see
returns-in-Zero-see g c = let at = c.visit_next.ensures.worker in record {
  worker = record {
    at = record { seat = c.see-else-visit_next.ensures.worker; pass = at.pass; shelf = at.shelf };
    saw = record {
      seen = c.see-else-visit_next.result;
      is_end = c.in-Zero-see.is;
      saw = c.see-else-visit_next.ensures.told;
    };
  };
  parts = c.visit_next.ensures.parts ∙ c.loop.invariant.1;
}
