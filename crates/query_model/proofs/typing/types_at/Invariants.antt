use Rattle.query_model.proofs.Imports.{map, take, type_at, ◌≡◌}
use Rattle.query_model.proofs.typing.types_at.Given as goal

abbrev pub invariant-loop-place : goal.invariant-loop-place
invariant-loop-place l =
    l.of_places.items ≡ map (type_at l.types) (take l.place-index l.places)
