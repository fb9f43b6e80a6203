use Rattle.pipeline_exec.specs.Gathering.{AreBornOrLeft}
use Rattle.pipeline_exec.proofs.gathering.is_each_born_or_left.Given as goal

abbrev pub invariant-loop-n : goal.invariant-loop-n
invariant-loop-n g l = AreBornOrLeft l.cells.items l.reserve l.n
