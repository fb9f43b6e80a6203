use Rattle.node_cells.proofs.Imports.{arith, identity_of, rules}
use Rattle.exec_laws.specs.declared.edges.DueCall.TheVariants as call
use Rattle.exec_laws.specs.declared.edges.NodeStatus.TheVariants as node
use Rattle.node_cells.proofs.QueueLaws.{turns-offer}
use Rattle.node_cells.proofs.VisitLaws.{resumes-offer, visits-as}
use Rattle.task_queue.proofs.KeptNumbers.{offers-none}
use Rattle.node_cells.proofs.node_visit.visit_node.Goals as goal

pub returns-in-Due-clause-offers : goal.returns-in-Due-clause-offers
returns-in-Due-clause-offers g c = turns-offer c.run_node.ensures.turns

pub returns-in-Due-clause-visits : goal.returns-in-Due-clause-visits
returns-in-Due-clause-visits g c = search (arith, visits-as)

pub returns-in-Resting-clause-offers : goal.returns-in-Resting-clause-offers
returns-in-Resting-clause-offers g c = turns-offer c.run_node-in-Resting.ensures.turns

pub returns-in-Resting-clause-visits : goal.returns-in-Resting-clause-visits
returns-in-Resting-clause-visits g c = search (arith, visits-as)

pub returns-in-AtWork-Schedule-clause-offers : goal.returns-in-AtWork-Schedule-clause-offers
returns-in-AtWork-Schedule-clause-offers g c = search (arith, resumes-offer)

pub returns-in-Over-clause-offers : goal.returns-in-Over-clause-offers
returns-in-Over-clause-offers g c = offers-none _ _

pub returns-in-AtWork-Schedule-clause-visits : goal.returns-in-AtWork-Schedule-clause-visits
returns-in-AtWork-Schedule-clause-visits g c = visits-as g.P.Processor.seen
    (identity_of c.args.table.now) c.args.queue.now _ c.args.cell.now c.resume.new.cell
    c.args.tasks.now c.resume.new.tasks (node.AtWork call.Schedule) (search rules)
    c.resume.ensures.resumes

pub returns-in-AtWork-Expand-clause-offers : goal.returns-in-AtWork-Expand-clause-offers
returns-in-AtWork-Expand-clause-offers g c = offers-none _ _
