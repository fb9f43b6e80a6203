use Rattle.node_cells.proofs.Imports.{identity_of}
use Rattle.task_queue.specs.Queues.{IsPassOf}
use Rattle.node_cells.specs.Turns.{IsPrepared, KeepsProcessor, Queues}
use Rattle.node_cells.proofs.node_run.carry_all.Given as goal

abbrev pub invariant-loop : goal.invariant-loop
invariant-loop g l = IsPassOf l.queue l.tasks.pass
    × IsPrepared g.P.Processor.seen (identity_of l.table) l.cell l.status
    × KeepsProcessor l.initial.cell l.cell
    × Queues (identity_of l.table) l.queue l.initial.cell l.cell l.initial.tasks l.tasks
