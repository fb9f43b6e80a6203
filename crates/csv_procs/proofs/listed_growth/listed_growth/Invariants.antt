use Rattle.csv_procs.proofs.GrowthLaws.{GrowsUpTo}
use Rattle.csv_procs.proofs.listed_growth.listed_growth.Given as goal

abbrev pub invariant-loop-i : goal.invariant-loop-i
invariant-loop-i l = GrowsUpTo l.list l.paths l.i l.nodes.items l.edges.items
