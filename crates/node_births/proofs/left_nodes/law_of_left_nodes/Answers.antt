use Rattle.node_births.proofs.GraphLeft.{graph-left}
use Rattle.node_births.proofs.left_nodes.law_of_left_nodes.Goals as goal

pub returns : goal.returns
returns c = record { left = graph-left }
