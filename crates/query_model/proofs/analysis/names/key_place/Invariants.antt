use Rattle.query_model.proofs.Imports.{false, list_any, same_column, take, ◌≡◌}
use Rattle.query_model.proofs.analysis.names.key_place.Given as goal

abbrev pub invariant-loop-i : goal.invariant-loop-i
invariant-loop-i l = list_any (same_column l.columns l.c) (take l.i l.keys) ≡ false
