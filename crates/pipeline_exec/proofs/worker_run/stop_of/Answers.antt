use Rattle.pipeline_exec.proofs.Imports.{refl}
use Rattle.pipeline_exec.proofs.CellChanges.{cells-same, stop-for}
use Rattle.pipeline_exec.proofs.worker_run.stop_of.Goals as goal

pub returns-then-not-gather_notes-clause-same : goal.returns-then-not-gather_notes-clause-same
returns-then-not-gather_notes-clause-same g c = cells-same c.gather_notes.new.cells.items
    c.args.cells.now.items c.gather_notes.ensures.same

pub returns-clause-same : goal.returns-clause-same
returns-clause-same g c = cells-same c.gather_notes.new.cells.items c.args.cells.now.items
    c.gather_notes.ensures.same

pub returns-clause-stop : goal.returns-clause-stop
returns-clause-stop g c = stop-for c.args.reserves.now c.args.cells.now.items
    c.first_stop-stop.result record {
      had_memory = c.if-is_any_short.ensures refl;
      first = c.if-not-gather_notes.ensures.first refl;
      left = c.if-not-are_born_or_left.ensures refl;
    } c.first_stop-stop.ensures.found c.first_stop-stop.ensures.missing
