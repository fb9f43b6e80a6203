use Rattle.pipeline_exec.proofs.CellChanges.{copy-of, gathered-one}
use Rattle.pipeline_exec.proofs.gathering.gather_at.Goals as goal

pub gather_copy-requires-clause-notes : goal.gather_copy-requires-clause-notes
gather_copy-requires-clause-notes g c κs within = c.in-Some.ensures.note _ c.requires.notes

pub gather_copy-requires-clause-copy : goal.gather_copy-requires-clause-copy
gather_copy-requires-clause-copy g c κs within = copy-of c.args.cells.now.items
    c.take_copy_at.new.cells.items c.take_copy_at.new.cells.items c.args.n c.requires.in_range
    c.in-Some.copy c.in-Some.ensures.found _ c.requires.notes

pub returns-in-Some-clause-gathers : goal.returns-in-Some-clause-gathers
returns-in-Some-clause-gathers g c = λ on first. gathered-one c.args.cells.now.items
    c.take_copy_at.new.cells.items c.gather_copy.new.cells.items c.args.n c.requires.in_range
    c.in-Some.copy c.in-Some.ensures.found c.args.reserves.now first c.in-Some.ensures.same
    c.in-Some.ensures.others c.gather_copy.ensures.same c.gather_copy.ensures.copied
    (c.gather_copy.ensures.first on)

pub returns-in-None-clause-note : goal.returns-in-None-clause-note
returns-in-None-clause-note g c = c.in-None.ensures.note _ c.requires.notes
