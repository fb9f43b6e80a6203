use Rattle.graph_checks.proofs.Imports.{drop, find, grown_kinds, lacks_blank, ◌≡◌}
use Rattle.graph_checks.proofs.places.first_lacking.Given as goal

abbrev pub invariant-loop-kind : goal.invariant-loop-kind
invariant-loop-kind l =
    find (lacks_blank (grown_kinds l.nodes) l.blanks) l.kinds
    ≡ find (lacks_blank (grown_kinds l.nodes) l.blanks) (drop l.kind-index l.kinds)
