use Rattle.aggregate_proc.proofs.Imports.{arith, FitsColumn, get_or, rules}
use Rattle.aggregate_proc.proofs.ListLaws.{below-next}
use Rattle.aggregate_proc.proofs.group_builder.fit_columns.Goals as goal

pub loop-i-preserved : goal.loop-i-preserved
loop-i-preserved c =
    let x = c.index-columns-i.result in
    let here : FitsColumn c.args.types.now (get_or c.args.columns.now c.loop-i.i x) =
    search rules in
    below-next (FitsColumn c.args.types.now) c.args.columns.now c.loop-i.i x (omega arith)
    here c.loop-i.invariant
