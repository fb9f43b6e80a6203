use Rattle.node_births.proofs.Imports.{identity_of}
use Rattle.node_births.proofs.Births.{newborn}
use Rattle.node_births.proofs.birth.bear.Goals as goal

pub returns-clause-born : goal.returns-clause-born
returns-clause-born g c = newborn g.P.Processor.seen (identity_of c.args.table.now) c.args.cell.now
    c.requires c.load.new.self c.args.spec c.in-Ok.ensures.ok c.token_in.new.seat c.birth.new.seat
    c.token_in.ensures c.birth.ensures
