use Rattle.query_model.proofs.Imports.{arith}
use Rattle.query_model.proofs.CallLaws.{one_more_counted}
use Rattle.query_model.proofs.analysis.groups.count_item_calls.Goals as goal

pub loop-item-preserved : goal.loop-item-preserved
loop-item-preserved c = grind (arith, one_more_counted)
