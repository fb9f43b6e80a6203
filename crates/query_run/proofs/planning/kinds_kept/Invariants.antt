use Rattle.query_run.proofs.Imports.{kinds_reserved, take, ◌≡◌}
use Rattle.query_run.proofs.planning.kinds_kept.Given as goal

abbrev pub invariant-loop-reserve : goal.invariant-loop-reserve
invariant-loop-reserve l = l.kinds.items ≡ kinds_reserved (take l.reserve-index l.reserves)
