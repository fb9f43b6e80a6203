use Rattle.exec_core.proofs.Imports.{Laws, Some, run, take, ◌≡◌}
use Rattle.exec_core.proofs.events.replay.Given as goal

abbrev pub invariant-loop-k : goal.invariant-loop-k
invariant-loop-k l =
    record { run : run l.fn.start (take l.k l.events) ≡ Some l.core; laws : Laws l.core }
