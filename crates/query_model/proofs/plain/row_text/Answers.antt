use Rattle.query_model.proofs.Imports.{arith}
use Rattle.query_model.proofs.TextLaws.{row_front-more, row_front-whole}
use Rattle.query_model.proofs.plain.row_text.Goals as goal

pub loop-i-preserved : goal.loop-i-preserved
loop-i-preserved c = grind (arith, row_front-more)

pub returns : goal.returns
returns c = grind (arith, row_front-whole)
