use Rattle.flow_procs.proofs.Imports.{count_on, ◌≡◌}
use Rattle.flow_procs.proofs.numbers.numbers_from.Given as goal

abbrev pub invariant-loop-i : goal.invariant-loop-i
invariant-loop-i l = l.numbers.items ≡ count_on l.first l.i
