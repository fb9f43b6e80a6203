use Rattle.query_model.proofs.Imports.{arith}
use Rattle.query_model.proofs.PlaceLaws.{place_found, place_at_end}
use Rattle.query_model.proofs.analysis.names.key_place.Goals as goal

pub returns-then-same_column : goal.returns-then-same_column
returns-then-same_column c = grind (arith, place_found)

pub returns : goal.returns
returns c = grind (arith, place_at_end)
