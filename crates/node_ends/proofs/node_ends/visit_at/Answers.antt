use Rattle.node_ends.proofs.Imports.{identity_of}
use Rattle.node_ends.proofs.CellChanges.{own-cell, stops-at, visited-at}
use Rattle.node_ends.proofs.node_ends.visit_at.Goals as goal

pub visit-requires-clause-cell : goal.visit-requires-clause-cell
visit-requires-clause-cell g c κs within = (own-cell g.P.Processor.seen
    (identity_of c.args.table.now) c.args.cells.now.items c.args.n _ c.requires.in_range
    c.index_mut.ensures.value c.requires.cells.0 c.requires.cells.1).stored

pub returns-clause-ok : goal.returns-clause-ok
returns-clause-ok g c = visited-at g.P.Processor.seen (identity_of c.args.table.now)
    c.args.cells.now.items c.args.n _ c.requires.in_range c.index_mut.ensures.value c.visit.result
    c.visit.new.cell c.visit.ensures.leaves

pub returns-clause-stop : goal.returns-clause-stop
returns-clause-stop g c = stops-at g.P.Processor.seen (identity_of c.args.table.now)
    c.args.cells.now.items c.args.n _ c.requires.in_range c.index_mut.ensures.value c.visit.result
    c.visit.new.cell c.visit.ensures.leaves c.visit.ensures.stop
