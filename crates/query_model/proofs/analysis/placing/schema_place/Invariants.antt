use Rattle.query_model.proofs.Imports.{Schema, bytes_eq, false, list_any, take, ◌≡◌}
use Rattle.query_model.proofs.analysis.placing.schema_place.Given as goal

abbrev pub invariant-loop-i : goal.invariant-loop-i
invariant-loop-i l = list_any (λ (s : Schema). bytes_eq s.name l.name) (take l.i l.tables) ≡ false
