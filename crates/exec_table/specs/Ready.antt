-- When a node's seat may make a step, by its view and the slots that are out with it, and what the
-- step tells it.
use Rattle.std.specs.Prelude.{◌≡◌, ℕ, ◌==◌, ◌&&◌, not, cond, Bool, true, false, nat_lt, List, [], ◌∷◌, length, Option, Some, None, slice_index_or}
use Rattle.atomic_table.specs.Table.{Act, keeps, takes, gives, carried_after}
use Rattle.core_laws.specs.declared.types.Step.TheVariants as step
use Rattle.exec_table.specs.Words.{found_by, edge_count}
use Rattle.exec_table.specs.Boards.{Board, EdgeEnd, NodeView, Holds, node_view, board_after, lane_at, no_end, fits_end, is_unborn_stage, is_over_stage}
use Rattle.exec_table.specs.Rule.{Sat, finding}
use Rattle.exec_table.specs.CoreNames.{Act as PortAct, Close, Finish, Pull, Push, Step, Unwant, Want, has, knows, flags_at, is_end, wire_ok, may_wire, port_at, may, acting_end, allows, has_token, may_take, may_leave, is_none_of, Chunk}

abbrev pub end_of_view : NodeView → ℕ → EdgeEnd
end_of_view x e = slice_index_or x.ends e no_end

-- a held node that has learned the edge
abbrev pub has_learned : NodeView → ℕ → Bool
has_learned x e = x.state.held && knows e x.state.seen

abbrev pub can_act : PortAct → NodeView → ℕ → Bool
can_act a x e = (has_learned x e && is_end (acting_end a) x.number (end_of_view x e).wire)
    && allows a (flags_at e x.state.seen)

-- what lies in the slot that the seat took last, if that is the slot e
abbrev pub in_hand : ℕ → List (ℕ × Option Chunk) → Option (Option Chunk)
in_hand e [] = None
in_hand e (y ∷ ys) = cond (y.0 == e) (Some y.1) None

abbrev pub is_full_hand : Option (Option Chunk) → Bool
is_full_hand (Some (Some x)) = true
is_full_hand x = false

abbrev pub is_empty_hand : Option (Option Chunk) → Bool
is_empty_hand (Some None) = true
is_empty_hand x = false

-- the condition of a step of the view x
abbrev pub ready : NodeView → Step → Bool
ready x (step.Look e) = has_learned x e
ready x (step.Want e) = can_act Want x e
ready x (step.Unwant e) = can_act Unwant x e
ready x (step.Push e k) = can_act (Push k) x e && (k == length (end_of_view x e).chunks)
ready x (step.Pull e) = can_act Pull x e
ready x (step.Finish e) = can_act Finish x e
ready x (step.ClosePort e) = can_act Close x e
ready x (step.Mark e) = has e x.state.owes && has_token x.state
ready x step.Begin = (has_token x.state && not x.state.held)
    && (not (is_unborn_stage x.stage) && not (is_over_stage x.stage))
ready x step.Again = x.state.held
ready x step.Rest = may_leave x.state && is_none_of x.state.unlooked
ready x step.Over = may_leave x.state
ready x step.TokenIn = may_take x.state
ready x step.TokenOut = has_token x.state
ready x (step.Wire e w) = nat_lt e (edge_count x.sizes)
    && ((w.from == x.number) && (wire_ok x.sizes.nodes w && may_wire x.sizes.reserves e w))
ready x (step.Wired e) = nat_lt e (edge_count x.sizes)
ready x step.Birth = is_unborn_stage x.stage && has_token x.state
ready x step.Stop = false
ready x step.See = false

-- the slot that a push or a pull gives back is the one that was taken last; what a pull leaves was
-- lifted out of it
abbrev pub is_at_hand : Step → List (ℕ × Option Chunk) → Bool
is_at_hand (step.Push e k) slots = is_full_hand (in_hand e slots)
is_at_hand (step.Pull e) slots = is_empty_hand (in_hand e slots)
is_at_hand s slots = true

-- what the slot that was taken last has now
abbrev pub front : List (ℕ × Option Chunk) → Option Chunk
front [] = None
front (y ∷ ys) = y.1

-- a look takes the slot whose turn has come, a push and a pull give it back
abbrev pub slot_act : Board → ℕ → Step → Act (Option Chunk)
slot_act b n (step.Look e) =
    cond (not (lane_at b e).taken
    && fits_end (is_end true n (port_at b.core e).wire) (lane_at b e).content)
    (takes e (lane_at b e).content) keeps
slot_act b n (step.Push e k) = gives
slot_act b n (step.Pull e) = gives
slot_act b n s = keeps

-- one step of the core from the board before it: the seat saw the node as x, found this word, and
-- sees the node and has the slots as after the step
pub record Did (x : NodeView) (s : Step) (slots : List (ℕ × Option Chunk)) (found : ℕ)
    (m : Sat) : Type 0 where
  pub before : Board
  pub holds : Holds before
  pub was : node_view before x.number ≡ x
  pub may : may before.core x.number s ≡ true
  pub kept : Holds (board_after before x.number s (front slots))
  pub word : found ≡ found_by before.core x.number s
  pub view : m.0 ≡ finding found (node_view (board_after before x.number s (front slots)) x.number)
  pub hand : m.1 ≡ carried_after slots (slot_act before x.number s)
