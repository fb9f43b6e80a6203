use Rattle.query_model.proofs.Imports.{arith}
use Rattle.query_model.proofs.Placed.{each_more}
use Rattle.query_model.proofs.analysis.placing.place_items.Goals as goal

pub loop-item-preserved : goal.loop-item-preserved
loop-item-preserved c = search (arith, each_more)
