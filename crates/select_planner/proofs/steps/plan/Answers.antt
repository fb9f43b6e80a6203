use Rattle.select_planner.proofs.Imports.{arith, plan-graph}
use Rattle.select_planner.proofs.Laying.{laid}
use Rattle.plan_laws.proofs.meaning.BoxCounts.{nodes-kept}
use Rattle.plan_laws.proofs.meaning.SoundPlans.{is-sound}
use Rattle.select_planner.proofs.steps.plan.Goals as goal

pub plan_of-requires-clause-fit : goal.plan_of-requires-clause-fit
plan_of-requires-clause-fit c =
    let s = laid c.args.query.now c.args.tables.now _ _ c.args.lanes c.args.chunk_rows c.args.header
    c.lay_steps.new.nodes c.as_slice.ensures c.as_slice-2.ensures c.requires.few_lanes
    c.in_ok-check_tables.ensures.ok c.in-Ok.ensures in
    (plan-graph _ c.lay_steps.new.nodes s.0 s.1).fit

pub plan_of-requires-clause-few_nodes : goal.plan_of-requires-clause-few_nodes
plan_of-requires-clause-few_nodes c =
    let s = laid c.args.query.now c.args.tables.now _ _ c.args.lanes c.args.chunk_rows c.args.header
    c.lay_steps.new.nodes c.as_slice.ensures c.as_slice-2.ensures c.requires.few_lanes
    c.in_ok-check_tables.ensures.ok c.in-Ok.ensures in
    let g = plan-graph _ c.lay_steps.new.nodes s.0 s.1 in
    omega (arith, g.few, nodes-kept 0 c.lay_steps.new.nodes)

pub returns-in-Ok-plan_of-clause-sound : goal.returns-in-Ok-plan_of-clause-sound
returns-in-Ok-plan_of-clause-sound c =
    let s = laid c.args.query.now c.args.tables.now _ _ c.args.lanes c.args.chunk_rows c.args.header
    c.lay_steps.new.nodes c.as_slice.ensures c.as_slice-2.ensures c.requires.few_lanes
    c.in_ok-check_tables.ensures.ok c.in-Ok.ensures in
    is-sound _ _ _ _ _ _ s.0 (record {
      copies = c.lay_steps.new.nodes;
      same = s.1;
      nodes = c.in-Ok-plan_of.ensures.nodes;
      edges = c.in-Ok-plan_of.ensures.edges;
      reserves = c.in-Ok-plan_of.ensures.reserves;
    })
