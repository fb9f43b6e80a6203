use Rattle.query_model.proofs.Imports.{map, place_in, take, ◌≡◌}
use Rattle.query_model.proofs.analysis.placing.place_columns.Given as goal

abbrev pub invariant-loop-name : goal.invariant-loop-name
invariant-loop-name l = l.places.items ≡ map (place_in l.columns) (take l.name-index l.names)
