use Rattle.node_ends.proofs.Imports.{identity_of}
use Rattle.node_ends.specs.RunEnds.{AreVisited}
use Rattle.task_queue.specs.Queues.{IsPassOf}
use Rattle.node_ends.proofs.node_ends.visit_all.Given as goal

abbrev pub invariant-loop-n : goal.invariant-loop-n
invariant-loop-n g l = record {
  pass : IsPassOf l.queue l.tasks.pass;
  visited : AreVisited g.P.Processor.seen (identity_of l.table) l.initial.cells.items l.cells.items;
}
