use Rattle.node_workers.proofs.Imports.{ap, sym, visit_end, ◌∙◌}
use Rattle.node_workers.proofs.VisitLaws.{ends-visit}
use Rattle.node_workers.proofs.growth_visit.grow_cell.Goals as goal

pub grow_and_run-ran-requires-clause-fits : goal.grow_and_run-ran-requires-clause-fits
grow_and_run-ran-requires-clause-fits g c κs within = rw c.requires.going at c.requires.fits

pub returns-clause-fits : goal.returns-clause-fits
returns-clause-fits g c = rw c.err-cause.ensures.value c.grow_and_run-ran.ensures.fits

pub returns-clause-grows : goal.returns-clause-grows
returns-clause-grows g c = rw c.err-cause.ensures.value c.grow_and_run-ran.ensures.grows

pub returns-clause-stops : goal.returns-clause-stops
returns-clause-stops g c = c.stop_for.ensures.told

pub returns-clause-end : goal.returns-clause-end
returns-clause-end g c = let cell = c.grow_and_run-ran.new.named.cell in
    c.unwrap_or.ensures ∙ (ends-visit c.grow_and_run-ran.result cell.mark.state
    c.grow_and_run-ran.ensures.end
    ∙ ap (λ x. visit_end x cell.mark.state) (sym c.err-cause.ensures.value))
