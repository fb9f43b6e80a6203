use Rattle.aggregate_proc.proofs.GroupingLaws.{begins, begins-dropping}
use Rattle.aggregate_proc.proofs.grouping.Grouping.begun.Goals as goal

pub returns-in-Ok : goal.returns-in-Ok
returns-in-Ok g c = begins g.G.Grouped.merges c.args.group c.in-Ok.table c.in-Ok.ensures.rows

pub returns-then-not-sum_no_texts : goal.returns-then-not-sum_no_texts
returns-then-not-sum_no_texts g c = begins-dropping g.G.Grouped.merges c.args.group
