use Rattle.graph_checks.proofs.Imports.{drop, grown_kinds, places_for, ◌++◌, ◌+◌, ◌≡◌}
use Rattle.graph_checks.proofs.places.places_for.Given as goal

abbrev pub invariant-loop-k : goal.invariant-loop-k
invariant-loop-k l =
    places_for (grown_kinds l.nodes) l.initial.blanks.items l.past
    ≡ l.places.items ++ places_for (grown_kinds (drop l.k l.nodes)) l.blanks.items (l.past + l.k)
