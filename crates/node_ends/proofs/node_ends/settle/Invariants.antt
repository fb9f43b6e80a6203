use Rattle.node_ends.proofs.Imports.{IsSurveyRoom, identity_of, length}
use Rattle.node_ends.specs.RunEnds.{AreVisited}
use Rattle.task_queue.specs.Queues.{IsPassOf}
use Rattle.node_ends.proofs.node_ends.settle.Given as goal

abbrev pub invariant-loop : goal.invariant-loop
invariant-loop g l = record {
  pass : IsPassOf l.queue l.tasks.pass;
  visited : AreVisited g.P.Processor.seen (identity_of l.table) l.initial.cells.items l.cells.items;
  room : IsSurveyRoom (identity_of l.table) (length l.initial.cells.items) l.room;
}
