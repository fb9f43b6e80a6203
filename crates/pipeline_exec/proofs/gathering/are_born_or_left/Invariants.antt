use Rattle.pipeline_exec.specs.Gathering.{AreAllBornOrLeft}
use Rattle.pipeline_exec.proofs.gathering.are_born_or_left.Given as goal

abbrev pub invariant-loop-k : goal.invariant-loop-k
invariant-loop-k g l = AreAllBornOrLeft l.reserves l.cells.items l.k
