use Rattle.query_model.proofs.Imports.{arith}
use Rattle.query_model.proofs.PlaceLaws.{place_of-le}
use Rattle.query_model.proofs.analysis.placing.key_column.Goals as goal

pub overflow_cast-result : goal.overflow_cast-result
overflow_cast-result c = search (arith, place_of-le)
