use Rattle.node_ends.proofs.Lists.{EachBelow}
use Rattle.node_ends.proofs.Visits.{RestsOn}
use Rattle.node_ends.proofs.node_ends.are_at_rest.Given as goal

abbrev pub invariant-loop-n : goal.invariant-loop-n
invariant-loop-n g l = EachBelow RestsOn l.n l.cells.items
