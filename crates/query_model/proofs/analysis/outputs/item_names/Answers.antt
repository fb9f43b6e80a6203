use Rattle.query_model.proofs.Imports.{arith, length-map, take_more}
use Rattle.query_model.proofs.Placed.{names_last, length-item_names}
use Rattle.query_model.proofs.analysis.outputs.item_names.Goals as goal

pub loop-item-preserved : goal.loop-item-preserved
loop-item-preserved c = grind (arith, length-item_names, length-map, names_last, take_more)
