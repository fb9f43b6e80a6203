use Rattle.query_model.proofs.Imports.{bytes_eq, false, list_any, take, ◌≡◌}
use Rattle.query_model.proofs.analysis.ordering.name_place.Given as goal

abbrev pub invariant-loop-i : goal.invariant-loop-i
invariant-loop-i l = list_any (bytes_eq l.name) (take l.i l.names) ≡ false
