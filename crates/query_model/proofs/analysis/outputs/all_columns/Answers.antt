use Rattle.query_model.proofs.Imports.{arith}
use Rattle.query_model.proofs.Placed.{columns_more}
use Rattle.query_model.proofs.analysis.outputs.all_columns.Goals as goal

pub loop-i-preserved : goal.loop-i-preserved
loop-i-preserved c = search (arith, columns_more)
