-- A growth as it is noted may cross threads, and so may a cell with its note.
use denote.Exit as exit
use Rattle.node_workers.proofs.Imports.{IsSend, IsSync, List, RattleType, TupleAt, Ty, [], arg, arg_send, crosses, param, param_send, recorded_send, recorded_sync, send-CondOf, send-ExprOf, sendable, shape, struct_send, struct_sync, type_at, ℕ, ◌∷◌}
use Rattle.chunk_data.proofs.lists.List.TheSendSync as list
use Rattle.exec_table.proofs.rule.ExecTable.TheSendSync as table
use Rattle.exec_table.proofs.rule.WorkerSeat.TheSendSync as seat
use Rattle.growth_notes.proofs.notes.GrowthNote.TheSendSync as own
use Rattle.growth_notes.proofs.notes.GrowthNotes.TheSendSync as notes
use Rattle.growth_notes.proofs.notes.NoteCopy.TheSendSync as copied
use Rattle.node_births.specs.contracts.noted_growth.NotedGrowth as noted
use Rattle.node_cells.proofs.cell.NodeCell.TheSendSync as cell
use Rattle.node_cells.proofs.stop_cause.StopCause.TheSendSync as stop
use Rattle.node_workers.specs.contracts.named_cell.CellNote as note
use Rattle.node_workers.specs.contracts.named_cell.NamedCell as named
use Rattle.node_workers.specs.contracts.worker.Shared as shared
use Rattle.node_workers.specs.contracts.worker.Worker as worker
use Rattle.node_workers.specs.declared.named_cell.Naming as naming
use Rattle.proc_api.specs.declared.processor.Processor as processor
use Rattle.proc_api.proofs.growth.Edge.TheSendSync as edge
use Rattle.task_queue.proofs.queue.TaskQueue.TheSendSync as queue
use Rattle.task_queue.proofs.seat.ShelfSeat.TheSendSync as shelf_seat
use Rattle.task_queue.proofs.shelf.Shelf.TheSendSync as shelf
use Rattle.task_queue.proofs.tasks.WorkerTasks.TheSendSync as tasks

pub noted_sent : IsSend noted.the_row
noted_sent =
    search (sendable, crosses, send-CondOf, send-ExprOf, list.the_send, edge.the_send)
    depth 80 fits 90000

pub noted_field_sent : IsSend (noted.the_field).row
noted_field_sent =
    search (sendable, crosses, send-CondOf, send-ExprOf, list.the_send, edge.the_send)
    depth 80 fits 90000

note_sent : IsSend (note.the_field).row
note_sent =
    search (sendable, crosses, own.the_field_send, copied.the_field_send, noted_sent)
    depth 80 fits 90000

-- `search` doesn't find the rest among all that a function knows

module _ (P-row J-row : RattleType) (p : IsSend P-row) (j : IsSend J-row) where
  cell_sent : IsSend (named.the_row P-row J-row)
  cell_sent = let t = named.the_type P-row J-row in
      recorded_send _ _ _ t.to_one (struct_send (shape t) (
        cell.the_field_send P-row p,
        (
          note_sent,
          (
            search (sendable, crosses, stop.the_send) depth 80 fits 90000,
            (search (sendable, crosses), tt),
          ),
        ),
      ))

  -- a cell with its note, as the type of a call's values
  pub named_sent : (layout : Ty) → IsSend (param 0 (arg layout exit.no (named.the_row P-row J-row)))
  named_sent layout = param_send 0 _ (arg_send layout exit.no _ cell_sent)

  pub worker_sent : IsSend (worker.the_row P-row J-row)
  worker_sent = let t = worker.the_type P-row J-row in
      recorded_send _ _ _ t.to_one (struct_send (shape t) (
        seat.the_field_send,
        (
          tasks.the_field_send,
          (
            shelf_seat.the_field_send _ cell_sent,
            (search (sendable, crosses), (search (sendable, crosses), tt)),
          ),
        ),
      ))

  -- what workers share
  pub shared_sync : (g : processor.Ghosts P-row.Denot) (g' : naming.Ghosts J-row.Denot)
      → IsSync (shared.the_row P-row J-row g g')
  shared_sync g g' = let t = shared.the_type P-row J-row g g' in
      recorded_sync _ _ _ t.to_one (struct_sync (shape t) (
        search (sendable, crosses),
        (
          table.the_field_sync,
          (
            notes.the_field_sync _ noted_sent,
            (
              queue.the_field_sync,
              (shelf.the_field_sync _ _ cell_sent, tt),
            ),
          ),
        ),
      ))

-- a closure of two things
pub pair_sync : (name : List ℕ) (A B : RattleType) → IsSync A → IsSync B
    → IsSync (TupleAt name (A ∷ B ∷ []))
pair_sync name A B a b =
    let t = type_at name (A ∷ B ∷ []) in
    recorded_sync _ _ _ t.to_one (struct_sync (shape t) (a, (b, tt)))

pub ruleset sent_notes = (noted_sent, noted_field_sent)
