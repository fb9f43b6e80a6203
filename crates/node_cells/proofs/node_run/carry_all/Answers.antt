use Rattle.node_cells.proofs.Imports.{arith, identity_of, refl, rules}
use Rattle.node_cells.proofs.ChargeLaws.{charged-inside, few-nodes}
use Rattle.node_cells.proofs.QueueLaws.{queues-charged, queues-none, queues-shared, queues-silent}
use Rattle.exec_table.specs.Seats.{sizes_in}
use Rattle.node_cells.specs.Cells.{cell_ports}
use Rattle.node_ports.specs.declared.actions.Carry.TheVariants as carry
use Rattle.node_cells.proofs.node_run.carry_all.Goals as goal

pub loop-init : goal.loop-init
loop-init g c = (c.requires.pass, c.requires.cell, search rules, queues-none _ _ _ _)

pub returns-in-Done-clause-queued : goal.returns-in-Done-clause-queued
returns-in-Done-clause-queued g c = search (arith, queues-shared, queues-silent)

pub loop-preserved-in-Told : goal.loop-preserved-in-Told
loop-preserved-in-Told g c = (
  c.loop.invariant.0,
  c.carry.ensures.prepared,
  search rules,
  queues-silent c.loop.invariant.3 carry.Told _ c.carry.ensures.carries c.in-Told.is refl,
)

pub offer_peer-requires-clause-few : goal.offer_peer-requires-clause-few
offer_peer-requires-clause-few g c =
    let i = charged-inside (identity_of c.args.table.now) (cell_ports c.loop.cell) _ _ _ _
    c.carry.ensures.carries c.in-Charged.is in
    let f = few-nodes (sizes_in c.args.table.now) c.args.table.now.fit in omega (arith, i, f)

pub loop-preserved : goal.loop-preserved
loop-preserved g c = (
  c.offer_peer.ensures.pass,
  c.carry.ensures.prepared,
  search rules,
  queues-charged c.loop.invariant.3 _ _ _ c.carry.ensures.carries c.in-Charged.is
      c.offer_peer.ensures.offered,
)
