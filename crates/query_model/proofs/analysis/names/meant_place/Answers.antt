use Rattle.query_model.proofs.Imports.{arith}
use Rattle.query_model.proofs.PlaceLaws.{place_found, place_at_end}
use Rattle.query_model.proofs.analysis.names.meant_place.Goals as goal

pub returns-then-is_meant : goal.returns-then-is_meant
returns-then-is_meant c = search (arith, place_found)

pub returns : goal.returns
returns c = search (arith, place_at_end)
