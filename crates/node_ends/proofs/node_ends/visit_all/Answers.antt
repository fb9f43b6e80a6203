use Rattle.node_ends.proofs.Imports.{identity_of}
use Rattle.node_ends.proofs.CellChanges.{stopped-both, visited-both}
use Rattle.node_ends.proofs.node_ends.visit_all.Goals as goal

pub visit_at-requires-clause-cells : goal.visit_at-requires-clause-cells
visit_at-requires-clause-cells g c κs within = (
  c.requires.cells.0,
  c.loop-n.invariant.visited.cells c.requires.cells.0 c.requires.cells.1,
)

pub returns-in-Err-clause-stop : goal.returns-in-Err-clause-stop
returns-in-Err-clause-stop g c = stopped-both g.P.Processor.seen (identity_of c.args.table.now) _ _
    _ c.loop-n.invariant.visited _ _ c.in-Err.ensures.stop

pub loop-n-preserved : goal.loop-n-preserved
loop-n-preserved g c = record {
  pass = c.visit_at.ensures.pass;
  visited = visited-both g.P.Processor.seen (identity_of c.args.table.now) _ _ _
      c.loop-n.invariant.visited c.in-Ok.ensures.ok;
}
