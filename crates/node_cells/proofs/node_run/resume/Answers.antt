use Rattle.node_cells.proofs.Imports.{refl, rules}
use Rattle.node_cells.specs.Visits.{resumes_once, resumes_turns}
use Rattle.node_cells.proofs.node_run.resume.Goals as goal

pub returns-in-Ok-None-clause-resumes : goal.returns-in-Ok-None-clause-resumes
returns-in-Ok-None-clause-resumes g c = resumes_turns c.fetch.new.cell (search rules)
    record { due = search rules; turns = c.run_node.ensures.turns }

pub returns-in-Ok-Some-clause-resumes : goal.returns-in-Ok-Some-clause-resumes
returns-in-Ok-Some-clause-resumes g c = resumes_once (search rules) refl

pub returns-in-Err-clause-resumes : goal.returns-in-Err-clause-resumes
returns-in-Err-clause-resumes g c = resumes_once (search rules) refl
