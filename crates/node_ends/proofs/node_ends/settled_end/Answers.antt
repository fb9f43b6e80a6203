use Rattle.node_ends.proofs.Imports.{◌∙◌}
use Rattle.node_ends.proofs.Reports.{cells-tell, settled-done, settled-stuck}
use Rattle.node_ends.proofs.node_ends.settled_end.Goals as goal

pub list_stuck-requires-clause-tells : goal.list_stuck-requires-clause-tells
list_stuck-requires-clause-tells g c κs within = cells-tell g.P.Processor.seen
    c.args.cells.now.items c.requires.settled.0 c.requires.settled.1

pub returns-in-Some : goal.returns-in-Some
returns-in-Some g c = λ graph settled. settled-stuck g.P.Processor.seen c.args.cells.now.items
    graph settled _ _ c.in-Some.ensures.in_range c.in-Some.ensures.found
    (c.from_vec.ensures ∙ c.list_stuck.ensures)

pub returns-in-None : goal.returns-in-None
returns-in-None g c = λ graph settled. settled-done g.P.Processor.seen c.args.cells.now.items
    graph settled c.in-None.ensures.missing
