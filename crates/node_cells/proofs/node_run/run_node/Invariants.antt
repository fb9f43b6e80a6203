use Rattle.node_cells.proofs.Imports.{None, identity_of}
use Rattle.task_queue.specs.Queues.{IsPassOf}
use Rattle.node_cells.specs.Turns.{IsDue, Runs, Stays}
use Rattle.node_cells.proofs.node_run.run_node.Given as goal

abbrev pub invariant-loop : goal.invariant-loop
invariant-loop g l = IsPassOf l.queue l.tasks.pass
    × IsDue g.P.Processor.seen (identity_of l.table) l.cell
    × Stays g.P.Processor.seen None l.initial.cell l.cell
    × Runs g.P.Processor.seen (identity_of l.table) l.queue l.initial.cell l.initial.tasks
    l.cell l.tasks
