use Rattle.query_model.proofs.Imports.{false, list_any, means, take, ◌≡◌}
use Rattle.query_model.proofs.analysis.names.meant_place.Given as goal

abbrev pub invariant-loop-i : goal.invariant-loop-i
invariant-loop-i l = list_any (means l.c) (take l.i l.columns) ≡ false
