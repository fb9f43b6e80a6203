use Rattle.core_laws.specs.Laws.{Laws}
use Rattle.exec_tests.proofs.exec_core_tests.walk.Given as goal

abbrev pub invariant-loop : goal.invariant-loop
invariant-loop l = Laws l.core
