use Rattle.aggregate_proc.proofs.Imports.{arith}
use Rattle.aggregate_proc.proofs.GroupLaws.{rows-counted}
use Rattle.aggregate_proc.proofs.group_table.GroupTable.groups.Goals as goal

pub returns : goal.returns
returns c = grind (arith, rows-counted)
