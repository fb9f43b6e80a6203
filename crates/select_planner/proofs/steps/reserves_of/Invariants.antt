use Rattle.select_planner.proofs.Imports.{reserves_from, take, ◌≡◌}
use Rattle.select_planner.proofs.steps.reserves_of.Given as goal

abbrev pub invariant-loop-n : goal.invariant-loop-n
invariant-loop-n l = l.reserves ≡ reserves_from 0 (take l.n l.nodes)
