use Rattle.pipeline_exec.proofs.Imports.{arith, at_index}
use Rattle.node_workers.specs.declared.named_cell.EndedCell.{EndedCell}
use Rattle.pipeline_exec.proofs.CellChanges.{map-again, notes-set, own-at}
use Rattle.pipeline_exec.specs.Gathering.{copied_growths, without_copy}
use Rattle.pipeline_exec.proofs.gathering.gather_copy.Goals as goal
unfoldable use Rattle.proc_api.specs.Reserves.{reserve_at}

pub gather_into-requires-clause-note : goal.gather_into-requires-clause-note
gather_into-requires-clause-note g c κs within = c.requires.notes _ _
    (at_index c.args.cells.now.items _ _ (omega arith) c.index_mut.ensures.value)

pub returns-clause-note : goal.returns-clause-note
returns-clause-note g c = notes-set _ c.args.cells.now.items _ c.gather_into.new.cell
    c.requires.notes c.gather_into.ensures.note

pub returns-clause-same : goal.returns-clause-same
returns-clause-same g c = map-again c.args.cells.now.items _ _ (omega arith)
    c.index_mut.ensures.value without_copy c.gather_into.new.cell c.gather_into.ensures.same

pub returns-clause-copied : goal.returns-clause-copied
returns-clause-copied g c = map-again c.args.cells.now.items _ _ (omega arith)
    c.index_mut.ensures.value (λ (d : EndedCell g.row.P.Denot). copied_growths d.note)
    c.gather_into.new.cell c.gather_into.ensures.copied

pub returns-clause-first : goal.returns-clause-first
unfolding reserve_at
returns-clause-first g c = λ on own e. c.gather_into.ensures.first on own
    (own-at c.args.cells.now.items _ _ (omega arith) c.index_mut.ensures.value own e)
