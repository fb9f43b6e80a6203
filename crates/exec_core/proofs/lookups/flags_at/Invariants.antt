use Rattle.exec_core.proofs.Imports.{drop, flags_at, ◌≡◌}
use Rattle.exec_core.proofs.lookups.flags_at.Given as goal

abbrev pub invariant-loop-sight : goal.invariant-loop-sight
invariant-loop-sight l = flags_at l.e l.seen ≡ flags_at l.e (drop l.sight-index l.seen)
