-- What clauses say of a table, its seats and their steps.
use Rattle.std.specs.Prelude.{◌≡◌, ◌⊎◌, ℕ, ◌+◌, ◌<◌, ◌≤◌, ◌==◌, ◌^◌, ◌%◌, ◌/◌, cond, Bool, true, false, is_some, nat_le, List, [], ◌∷◌, length, map, Option, Some, None, Result, Ok, Err}
use Rattle.std.specs.VecDeque.{deque_capacity}
use Rattle.atomic_table.specs.Seated.{TableId}
use Rattle.core_laws.specs.Steps as core
use Rattle.core_laws.specs.declared.types.Step.TheVariants as step
use Rattle.exec_table.specs.CoreNames.{AreEdgesOnce, Chunk, Sizes, Step, StepAnswer, Wire, answer, has, is_set, knows, may}
use Rattle.exec_table.specs.Words.{edge_count, found_by}
use Rattle.exec_table.specs.Boards.{Board, Holds, NodeView, node_view, board_after}
pub use Rattle.exec_table.specs.Ready.{end_of_view, is_full_hand as holds_chunk}
use Rattle.exec_table.specs.Plays.{Worked, first_node}
pub use Rattle.exec_table.specs.declared.rule.ExecTable.{ExecTable}
use Rattle.exec_table.specs.Rule.{no_view}
pub use Rattle.exec_table.specs.declared.rule.NodeSeat.{NodeSeat}
pub use Rattle.exec_table.specs.declared.rule.RootSeat.{RootSeat}
pub use Rattle.exec_table.specs.declared.rule.WorkerSeat.{WorkerSeat}
use Rattle.exec_table.specs.declared.types.Marked.{Marked}
use Rattle.exec_table.specs.declared.types.Marked.TheVariants.{Charged, AlreadyDue, Over}
use Rattle.exec_table.specs.declared.types.Updated.{Updated}
use Rattle.exec_table.specs.declared.types.Rested.{Rested}
use Rattle.exec_table.specs.declared.types.Rested.TheVariants.{Idle, UpdatedAgain}
use Rattle.exec_table.specs.declared.types.Seen.{Seen}
use Rattle.exec_table.specs.declared.types.Seen.TheVariants.{Pending, Zero, Stopped}

-- ---- slots that are out with a seat

abbrev pub Slots : Type 0
Slots = List (ℕ × Option Chunk)

abbrev pub edges_out : Slots → List ℕ
edges_out slots = map (λ (y : ℕ × Option Chunk). y.0) slots

-- what the slot of the edge e has, if it is out with the seat
abbrev pub slot_in : ℕ → Slots → Option (Option Chunk)
slot_in e [] = None
slot_in e (y ∷ ys) = cond (y.0 == e) (Some y.1) (slot_in e ys)

-- the slots that are out with a seat are those whose turn it has; each has what lay in the port, or
-- was emptied
pub record HandHolds (x : NodeView) (slots : Slots) : Type 0 where
  pub once : AreEdgesOnce (edges_out slots)
  pub turns : (e : ℕ) → has e (edges_out slots) ≡ is_some (end_of_view x e).turn
  pub lies : (e : ℕ) (v : Option Chunk) → slot_in e slots ≡ Some v
      → (v ≡ None) ⊎ ((end_of_view x e).turn ≡ Some v)

-- ---- seats

-- what a seat knows of its node
abbrev pub view : NodeSeat → NodeView
view s = first_node s.seat.me.0

abbrev pub slots : NodeSeat → Slots
slots s = s.seat.me.1

-- the slot of the edge e, if it is out with the seat
abbrev pub slot_of : NodeSeat → ℕ → Option (Option Chunk)
slot_of s e = slot_in e (slots s)

-- a push at the edge e: the chunk has the number of those that were pushed before it
abbrev pub push_of : NodeSeat → ℕ → Step
push_of s e = step.Push e (length (end_of_view (view s) e).chunks)

abbrev pub sizes_in : ExecTable → Sizes
sizes_in t = t.table.shared.key

-- what tells a table from others, and its sizes: all that a seat's law has of it
pub record Identity : Type 0 where
  pub id : TableId
  pub sizes : Sizes

abbrev pub identity_of : ExecTable → Identity
identity_of t = record { id = t.table.shared.table_id; sizes = sizes_in t }

-- the data of the seat name the slots that are out with it, each once
pub record IsInHand (s : NodeSeat) : Type 0 where
  pub places : s.held.items ≡ edges_out (slots s)
  pub once : AreEdgesOnce s.held.items

-- the seat of a node of the table
pub record IsSeatOf (t : Identity) (s : NodeSeat) : Type 0 where
  pub table : s.seat.table_id ≡ t.id
  pub single : s.seat.me.0.nodes ≡ view s ∷ []
  pub sizes : (view s).sizes ≡ t.sizes
  pub number : s.node ≡ (view s).number
  pub inside : (view s).number < t.sizes.nodes
  pub ends : length (view s).ends ≡ edge_count t.sizes
  pub edges : (e : ℕ) → knows e (view s).state.seen ≡ true → e < edge_count t.sizes
  pub owes : (e : ℕ) → has e (view s).state.owes ≡ true → knows e (view s).state.seen ≡ true
  pub hand : HandHolds (view s) (slots s)
  pub places : s.held.items ≡ edges_out (slots s)
  pub room : edge_count t.sizes ≤ deque_capacity s.held

-- ---- steps

-- a slot that is out is as it was, or was at home and was taken with what lies in the port
abbrev pub KeepsSlots : NodeSeat → NodeSeat → Type 0
KeepsSlots old new = (d : ℕ) (v : Option Chunk) → slot_of new d ≡ Some v
    → (slot_of old d ≡ Some v)
    ⊎ ((slot_of old d ≡ None) × ((end_of_view (view new) d).turn ≡ Some v))

-- the call made the step s of the core, which put x into a slot, and answered a: there was a state
-- that met the laws, in which the seat's view said what was so, as the new view says it after it,
-- and a is what the word tells that the step found
pub record MakesStep (t : Identity) (old new : NodeSeat) (s : Step) (x : Option Chunk)
    (a : StepAnswer) : Type 0 where
  pub seat : IsSeatOf t new
  pub before : Board
  pub holds : Holds before
  pub was : node_view before (view old).number ≡ view old
  pub may : may before.core (view old).number s ≡ true
  pub kept : Holds (board_after before (view old).number s x)
  pub now : node_view (board_after before (view old).number s x) (view old).number ≡ view new
  pub found : new.seat.me.0.found ≡ found_by before.core (view old).number s
  pub says : answer before.core (view old).number s ≡ a
  pub carried : KeepsSlots old new

-- ---- answers

abbrev pub marked_of : Marked → core.Marked
marked_of Charged = core.charged
marked_of AlreadyDue = core.already_due
marked_of Over = core.over

-- the ports that a node's word names
abbrev pub updated_of : ℕ → Updated
updated_of w = record {
  inputs = w % 2 ^ 32;
  outputs = w / 2 ^ 32 % 2 ^ 16;
  first = is_set w 60;
}

-- the step tells the word whose ports are these
pub record MakesUpdated (t : Identity) (old new : NodeSeat) (s : Step)
    (u : Updated) : Type 0 where
  pub word : ℕ
  pub ports : u ≡ updated_of word
  pub makes : MakesStep t old new s None (core.updated word)

abbrev pub is_idle : Rested → Bool
is_idle Idle = true
is_idle UpdatedAgain = false

abbrev pub wire_found : {A : Type 0} → Result A Wire → Option Wire
wire_found (Ok x) = None
wire_found (Err w) = Some w

abbrev pub seen_of : Seen → core.Seen
seen_of (Pending n) = core.pending n
seen_of Zero = core.quiet
seen_of Stopped = core.stopped

-- ---- workers

-- the root has no node, and is no worker
pub record IsRootOf (t : Identity) (s : RootSeat) : Type 0 where
  pub table : s.seat.table_id ≡ t.id
  pub view : s.seat.me ≡ (record no_view { made = s.seat.me.0.made; sizes = t.sizes }, [])

pub record IsWorkerOf (t : Identity) (s : WorkerSeat) : Type 0 where
  pub table : s.seat.table_id ≡ t.id
  pub number : ℕ
  pub view : s.seat.me
      ≡ (record no_view { found = s.seat.me.0.found; worker = Some number; sizes = t.sizes }, [])

-- the last step of the worker, from a state of the table's sizes that met the laws: it answered a,
-- which is what the word tells that it found
pub record WorkerDoes (t : Identity) (s : WorkerSeat) (p : Step) (a : StepAnswer) : Type 0 where
  pub number : ℕ
  pub is : s.seat.me.0.worker ≡ Some number
  pub did : Worked t.sizes number p s.seat.me.0.found
  pub says : answer did.before.core (t.sizes.nodes + number) p ≡ a

-- what word 0 tells
abbrev pub seen_in_word : ℕ → core.Seen
seen_in_word w = cond (nat_le (2 ^ 63) w) core.stopped (cond (w == 0) core.quiet (core.pending w))
