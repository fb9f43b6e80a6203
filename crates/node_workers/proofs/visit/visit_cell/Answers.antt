use Rattle.node_workers.proofs.Imports.{ap, offers-none, sym, visit_end, ◌∙◌}
use Rattle.node_workers.proofs.VisitLaws.{ends-visit, visited-fits, visits-cell}
use Rattle.node_workers.proofs.visit.visit_cell.Goals as goal

pub returns-in-Some-clause-worker : goal.returns-in-Some-clause-worker
returns-in-Some-clause-worker g c = record {
  seat = c.requires.worker.seat;
  pass = c.requires.worker.pass;
  offers = offers-none _ _;
}

pub returns-clause-fits : goal.returns-clause-fits
returns-clause-fits g c = visited-fits g.P.Processor.seen _ _ _ _ _ _ _ _ _ c.requires.table
    c.in-None.is c.err-cause.ensures.value c.requires.fits c.visit_stored-ran.ensures.leaves

pub returns-clause-stops : goal.returns-clause-stops
returns-clause-stops g c = λ d. c.stop_for.ensures.told (λ n. d (n ∙ sym c.in-None.is))

pub returns-clause-visits : goal.returns-clause-visits
returns-clause-visits g c = visits-cell g.P.Processor.seen _ _ _ _ _ _ _ _ _ c.in-None.is
    c.err-cause.ensures.value c.visit_stored-ran.ensures.visits

pub returns-clause-end : goal.returns-clause-end
returns-clause-end g c = let cell = c.visit_stored-ran.new.cell in
    c.unwrap_or.ensures ∙ (ends-visit c.visit_stored-ran.result cell.mark.state
    c.visit_stored-ran.ensures.end
    ∙ ap (λ x. visit_end x cell.mark.state) (sym c.err-cause.ensures.value))
