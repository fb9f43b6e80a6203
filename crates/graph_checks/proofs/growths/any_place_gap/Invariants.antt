use Rattle.graph_checks.proofs.Imports.{false, has_gap, list_any, take, ◌≡◌}
use Rattle.graph_checks.proofs.growths.any_place_gap.Given as goal

abbrev pub invariant-loop-place : goal.invariant-loop-place
invariant-loop-place l = list_any (has_gap l.wires) (take l.place-index l.places) ≡ false
