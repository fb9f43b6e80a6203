use Rattle.node_workers.specs.declared.named_cell.EndedCell.{EndedCell}
use Rattle.pipeline_exec.proofs.CellChanges.{found-at, map-again, map-else, missing-at, notes-set}
use Rattle.pipeline_exec.proofs.Imports.{at_index}
use Rattle.pipeline_exec.specs.Gathering.{copied_growths, without_copy}
use Rattle.pipeline_exec.proofs.gathering.take_copy_at.Goals as goal

pub returns-clause-same : goal.returns-clause-same
returns-clause-same g c = map-again c.args.cells.now.items c.args.n _ c.requires.in_range
    c.index_mut.ensures.value without_copy c.take_copy.new.cell c.take_copy.ensures.same

pub returns-clause-note : goal.returns-clause-note
returns-clause-note g c = λ id all. notes-set id c.args.cells.now.items c.args.n
    c.take_copy.new.cell all (c.take_copy.ensures.note id (all c.args.n _
    (at_index c.args.cells.now.items c.args.n _ c.requires.in_range c.index_mut.ensures.value)))

pub returns-clause-others : goal.returns-clause-others
returns-clause-others g c = map-else (λ (d : EndedCell g.row.P.Denot). copied_growths d.note)
    c.args.cells.now.items c.args.n c.take_copy.new.cell

pub returns-clause-found : goal.returns-clause-found
returns-clause-found g c = found-at c.args.cells.now.items c.args.n _ c.requires.in_range
    c.index_mut.ensures.value c.take_copy.result c.take_copy.ensures.found

pub returns-clause-missing : goal.returns-clause-missing
returns-clause-missing g c = missing-at c.args.cells.now.items c.args.n _ c.requires.in_range
    c.index_mut.ensures.value c.take_copy.result c.take_copy.ensures.missing
