use Rattle.query_run.proofs.Imports.{kept_places, ◌++◌, ◌≡◌}
use Rattle.query_run.proofs.planning.add_kept.Given as goal

abbrev pub invariant-loop-part : goal.invariant-loop-part
invariant-loop-part l = l.places.items ≡ l.initial.places.items ++ kept_places l.table 1 l.part
