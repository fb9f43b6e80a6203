use Rattle.join_proc.proofs.Imports.{arith, length-set}
use Rattle.join_proc.proofs.IndexLaws.{link-row}
use Rattle.join_proc.proofs.join_index.link_rows.Goals as goal

pub loop-done-preserved : goal.loop-done-preserved
loop-done-preserved c = grind (arith, link-row, length-set)
