use Rattle.node_workers.proofs.EndLaws.{named-themselves}
use Rattle.node_workers.proofs.run.run_cells.Goals as goal

pub run_named-requires-clause-named : goal.run_named-requires-clause-named
run_named-requires-clause-named g c κs within =
    named-themselves g.P.Processor.seen c.args.cells.items
