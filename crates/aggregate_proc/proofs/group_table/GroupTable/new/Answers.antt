use Rattle.aggregate_proc.proofs.Imports.{arith, group_table_view}
use Rattle.aggregate_proc.proofs.GroupLaws.{empty-table, no-rows}
use Rattle.aggregate_proc.proofs.group_table.GroupTable.new.Goals as goal

pub invariant_of-result : goal.invariant_of-result
invariant_of-result c = grind (arith, empty-table)

pub returns-clause-rows : goal.returns-clause-rows
returns-clause-rows c =
    let t = group_table_view c.args.types c.args.keys c.new-seen.result c.args.columns.items in
    no-rows t c.new-seen.ensures.none (invariant_of-result c).0
