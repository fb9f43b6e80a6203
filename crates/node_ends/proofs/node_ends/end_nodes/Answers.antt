use Rattle.node_ends.proofs.Reports.{settled-ends}
use Rattle.node_ends.proofs.node_ends.end_nodes.Goals as goal

pub settled_end-requires-clause-settled : goal.settled_end-requires-clause-settled
settled_end-requires-clause-settled g c κs within = (
  c.requires.cells.0,
  c.in-Ok.ensures.settled c.requires.cells.0 c.requires.cells.1,
)

pub returns-in-Ok-clause-end : goal.returns-in-Ok-clause-end
returns-in-Ok-clause-end g c = λ graph all. settled-ends c.settled_end.result _ _ _
    (c.settled_end.ensures graph (c.in-Ok.ensures.settled graph all))
    c.in-Ok.ensures.visited.growth

pub returns-in-Ok-clause-quiet : goal.returns-in-Ok-clause-quiet
returns-in-Ok-clause-quiet g c = λ _ graph all. c.in-Ok.ensures.settled graph all
