use Rattle.query_model.proofs.Imports.{arith}
use Rattle.query_model.proofs.PlaceLaws.{place_found, place_at_end}
use Rattle.query_model.proofs.analysis.ordering.name_place.Goals as goal

pub returns-then-is_name : goal.returns-then-is_name
returns-then-is_name c = grind (arith, place_found)

pub returns : goal.returns
returns c = grind (arith, place_at_end)
