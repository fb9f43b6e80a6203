use Rattle.node_cells.proofs.Imports.{None, rules}
use Rattle.node_cells.proofs.QueueLaws.{turn-of}
use Rattle.node_cells.proofs.StayLaws.{stay-turn}
use Rattle.node_cells.specs.Turns.{runs_more, runs_none}
use Rattle.node_cells.proofs.node_run.run_node.Goals as goal

pub loop-init : goal.loop-init
loop-init g c = (c.requires.pass, c.requires.cell, search rules, runs_none)

pub loop-preserved : goal.loop-preserved
loop-preserved g c = (
  c.carry_all.ensures.pass,
  search rules,
  stay-turn g.P.Processor.seen None _ _ _ _ _ c.loop.invariant.2 c.prepare-status.ensures.stays
      c.carry_all.ensures.keeps (search rules),
  runs_more c.loop.invariant.3 (turn-of c.prepare-status.ensures.stays
      c.prepare-status.ensures.prepared c.carry_all.ensures.queued c.carry_all.ensures.cell
      (search rules) (search rules)),
)

pub returns-in-Ok-Some-clause-turns : goal.returns-in-Ok-Some-clause-turns
returns-in-Ok-Some-clause-turns g c = record {
  between = _;
  tasks = _;
  earlier = c.loop.invariant.3;
  last = turn-of c.prepare-status.ensures.stays c.prepare-status.ensures.prepared
      c.carry_all.ensures.queued c.carry_all.ensures.cell (search rules) (search rules);
}

pub returns-in-Err-clause-turns : goal.returns-in-Err-clause-turns
returns-in-Err-clause-turns g c = record {
  between = _;
  tasks = _;
  earlier = c.loop.invariant.3;
  last = turn-of c.prepare-status.ensures.stays c.prepare-status.ensures.prepared
      c.carry_all.ensures.queued c.carry_all.ensures.cell (search rules) (search rules);
}
