use Rattle.aggregate_proc.proofs.Imports.{arith, count_up}
use Rattle.aggregate_proc.proofs.group_table.first_columns.Goals as goal

pub loop-c-init : goal.loop-c-init
unfolding count_up
loop-c-init c = grind arith

pub loop-c-preserved : goal.loop-c-preserved
unfolding count_up
loop-c-preserved c = grind arith
