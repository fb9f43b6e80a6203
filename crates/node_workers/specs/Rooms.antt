-- The room of a run, and how cells are moved in it.
use Rattle.std.specs.Prelude.{All, None, Vec, [], length, vec_capacity, ℕ, ◌+◌, ◌≡◌, ◌≤◌}
use Rattle.std.specs.VecDeque.{deque_capacity}
use Rattle.std.specs.declared.alloc.Global.{Global}
use Rattle.std.specs.declared.collections.VecDeque.{VecDeque}
use Rattle.node_cells.specs.declared.cell.NodeCell.{NodeCell}
use Rattle.node_workers.specs.declared.named_cell.CellNote.TheVariants as note
use Rattle.node_workers.specs.declared.named_cell.EndedCell.{EndedCell}
use Rattle.node_workers.specs.declared.named_cell.NamedCell.{NamedCell}
use Rattle.node_workers.specs.declared.rooms.EndRooms.{EndRooms}
use Rattle.node_workers.specs.declared.rooms.Rooms.{Rooms}
use Rattle.task_queue.specs.Queues.{IsPassOf}

-- an empty list with room for so many
abbrev pub IsRoomFor : {V : Type 0} → ℕ → Vec V Global → Type 0
IsRoomFor n v = (v.items ≡ []) × (n ≤ vec_capacity v)

abbrev pub IsDequeFor : ℕ → VecDeque ℕ Global → Type 0
IsDequeFor n d = (d.items ≡ []) × (n ≤ deque_capacity d)

module _ {P J : Type 0} where
  -- room for the seats of so many workers and for the cells of so many nodes
  pub record HasEndRoom (nodes workers : ℕ) (r : EndRooms P J) : Type 0 where
    pub seats : IsRoomFor workers r.seats
    pub shelf_seats : IsRoomFor workers r.shelf_seats
    pub cells : IsRoomFor nodes r.cells

  pub record HasRoom (nodes workers : ℕ) (r : Rooms P J) : Type 0 where
    pub pass : IsPassOf r.queue r.pass
    pub others : length r.held.items + 1 ≡ workers
    pub held : All (IsDequeFor nodes) r.held.items
    pub named : IsRoomFor nodes r.named
    pub workers_room : IsRoomFor workers r.workers
    pub at_end : HasEndRoom nodes workers r.at_end

  -- a cell at which nobody stopped the run, without a note
  abbrev pub as_named : NodeCell P → NamedCell P J
  as_named c = record { cell = c; note = note.Bare; stopped = None; names = record {} }

  abbrev pub node_cell : NamedCell P J → NodeCell P
  node_cell d = d.cell

  abbrev pub as_ended : NamedCell P J → EndedCell P
  as_ended d = record { cell = d.cell; note = d.note; stopped = d.stopped }
