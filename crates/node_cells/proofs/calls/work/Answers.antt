use Rattle.node_cells.proofs.Imports.{identity_of, refl}
use Rattle.node_cells.proofs.WorkLaws.{worked-due}
use Rattle.node_cells.proofs.calls.work.Goals as goal

pub returns-in-Ok-clause-ok : goal.returns-in-Ok-clause-ok
returns-in-Ok-clause-ok g c = worked-due g.P.Processor.seen (identity_of c.args._table.now)
    c.args.cell.now
    c.work_box.new.processor _ c.requires c.in-Ok.ensures.ok refl
