-- What clauses say of a shelf and its seats.
use Rattle.std.specs.Prelude.{◌≡◌, ◌≢◌, ℕ, List, [], All}
use Rattle.task_queue.specs.declared.seat.ShelfSeat.{ShelfSeat}
use Rattle.task_queue.specs.declared.shelf.Shelf.{Shelf}
use Rattle.task_queue.specs.Numbers.{times, total_over}
use Rattle.task_queue.specs.Rules.{all_shares}

module _ {V : Type 0} where
  -- the places whose values the seat holds, each once
  abbrev pub held : ShelfSeat V → List ℕ
  held s = s.held.items

  -- the seat's share of the shelf
  abbrev pub parts : ShelfSeat V → ℕ
  parts s = s.seat.me.0.parts

  abbrev pub places : Shelf V → ℕ
  places shelf = shelf.table.shared.table_id.slots

  abbrev pub Holds : ShelfSeat V → ℕ → Type 0
  Holds s n = times n (held s) ≡ 1

  abbrev pub Lacks : ShelfSeat V → ℕ → Type 0
  Lacks s n = times n (held s) ≡ 0

  -- the seat lets n go and holds the other places as before
  pub record LetsGo (old new : ShelfSeat V) (n : ℕ) : Type 0 where
    pub gone : Lacks new n
    pub others : (m : ℕ) → m ≢ n → times m (held new) ≡ times m (held old)

  -- the seat is one of the same shelf, with the same share
  abbrev pub IsSameSeat : ShelfSeat V → ShelfSeat V → Type 0
  IsSameSeat old new = (new.seat.table_id ≡ old.seat.table_id) × (parts new ≡ parts old)

  abbrev pub IsSeatOf : Shelf V → ShelfSeat V → Type 0
  IsSeatOf shelf s = s.seat.table_id ≡ shelf.table.shared.table_id

  -- a seat of the shelf that holds nothing
  abbrev pub IsIdleSeatOf : Shelf V → ShelfSeat V → Type 0
  IsIdleSeatOf shelf s = IsSeatOf shelf s × (held s ≡ [])

  -- these are all the seats of the shelf, and they hold nothing
  abbrev pub AreAllIdle : Shelf V → List (ShelfSeat V) → Type 0
  AreAllIdle shelf seats = (total_over parts seats ≡ all_shares) × All (IsIdleSeatOf shelf) seats
