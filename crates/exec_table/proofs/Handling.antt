-- What look, push, lift and pull do to the slots that are out with a seat.
use Rattle.exec_table.proofs.Imports.{AreEdgesOnce, Board, Bool, Chunk, Flags, HandHolds, Holds, Identity, IsInHand, IsSeatOf, List, NodeSeat, NodeView, None, Option, Slots, Some, Wire, [], ap, arith, beq, carried_after, cases_Bool, cases_lt, cond, deque_capacity, edge_count, edges_out, end_of_view, eqb, false, fits_end, flags_word, found_by, get_or_past, has, holds_chunk, in_hand, is_empty_hand, is_end, is_full_hand, is_held_end, lane_at, length, node_view, not, once-cons, port_at, slot_act, slot_in, slot_of, slots, subst, sym, true, view, ℕ, ◌&&◌, ◌<◌, ◌∙◌, ◌∷◌, ◌≡◌}
use Rattle.exec_table.proofs.Hands.{has-slot, turn-of-end, view-turn}
use Rattle.exec_table.proofs.Stepping.{holds-in, lane-full}
use Rattle.exec_table.proofs.SlotLists.{few-below, first-slot}
use Rattle.exec_table.proofs.Seating.{known-wire}
use Rattle.exec_table.proofs.Wording.{read-port}
use Rattle.core_laws.specs.declared.types.Step.TheVariants as step

-- a slot that has something is one of those that are out
pub slot-there : (e : ℕ) (l : Slots) (v : Option Chunk) → slot_in e l ≡ Some v
    → has e (edges_out l) ≡ true
slot-there e [] v h = grind (arith, h)
slot-there e (y ∷ ys) v h = grind (arith, h, slot-there e ys v)

pub held-there : (t : Identity) (s : NodeSeat) (e : ℕ) (v : Option Chunk) → IsSeatOf t s
    → slot_of s e ≡ Some v → has e s.held.items ≡ true
held-there t s e v o h = ap (has e) o.places ∙ slot-there e (slots s) v h

-- there is room for one more slot
pub room-for : (t : Identity) (s : NodeSeat) (e : ℕ) → IsSeatOf t s → e < edge_count t.sizes
    → has e s.held.items ≡ false → length s.held.items < deque_capacity s.held
room-for t s e o less none = let few = few-below (edge_count t.sizes) (e ∷ s.held.items)
    (once-cons e s.held.items none (subst (λ l. AreEdgesOnce l) (sym o.places) o.hand.once)) in
    let past = get_or_past (view s).ends in let turns = o.hand.turns in
    let p = o.places in let ends = o.ends in let room = o.room in
    grind (arith, few, past, turns, p, ends, room, cases_lt, cases_Bool, none, less)

-- the slots after a look are those that the data name, if they take e just where its turn has come
pub look-places : (b : Board) (n e : ℕ) (l : Slots) (held : List ℕ) (t : Bool) → Holds b
    → HandHolds (node_view b n) l → is_held_end b.core n e ≡ true → held ≡ edges_out l
    → t ≡ fits_end (is_end true n (port_at b.core e).wire) (lane_at b e).content
    → cond (t && not (has e held)) (e ∷ held) held
    ≡ edges_out (carried_after l (slot_act b n (step.Look e)))
look-places b n e l held t h hand g places turn =
    grind (arith, view-turn, turn-of-end, holds-in)

-- the turn of an end, by the flags and the wire that it reads
pub look-turn : (b : Board) (n e : ℕ) (f : Flags) (w : Wire) → Holds b → is_held_end b.core n e
    ≡ true → (end_of_view (node_view b n) e).wire ≡ Some w → f ≡ (port_at b.core e).flags
    → beq f.has_data (eqb w.to n)
    ≡ fits_end (is_end true n (port_at b.core e).wire) (lane_at b e).content
look-turn b n e f w h g is flags = grind (arith, lane-full, holds-in, known-wire)

-- the flags that a look finds
pub look-found : (b : Board) (n e : ℕ) → Holds b → is_held_end b.core n e ≡ true
    → found_by b.core n (step.Look e) ≡ flags_word (port_at b.core e).flags
look-found b n e h g = read-port b.core h.laws e (holds-in b.core n e g).1

-- the slot that was brought to the front, with what it has
pub at-front : (s : NodeSeat) (e : ℕ) (ns : List ℕ) (v : Option Chunk) → IsInHand s
    → s.held.items ≡ e ∷ ns → slot_of s e ≡ Some v
    → (ys : Slots) × (slots s ≡ (e, v) ∷ ys) × (edges_out ys ≡ ns)
at-front s e ns v h first is = grind (arith, first-slot)

-- the same slots and view, in another order
pub hand-turned : (x : NodeView) (l k : Slots) → AreEdgesOnce (edges_out k)
    → ((d : ℕ) → slot_in d k ≡ slot_in d l) → HandHolds x l → HandHolds x k
hand-turned x l k one same h = grind (arith, one, has-slot, same, h.turns, h.lies)

-- a slot that has a chunk
pub full-slot : (y : Option (Option Chunk)) → holds_chunk y ≡ true
    → (x : Chunk) × (y ≡ Some (Some x))
full-slot y h = grind (arith, h)

-- the first slot was emptied
pub hand-lifted : (x : NodeView) (e : ℕ) (v : Option Chunk) (ys : Slots)
    → HandHolds x ((e, v) ∷ ys) → HandHolds x ((e, None) ∷ ys)
hand-lifted x e v ys h = grind arith

-- what a push and a pull find at the front
pub full-front : (e : ℕ) (l : Slots) (x : Chunk) (ys : Slots) → l ≡ (e, Some x) ∷ ys
    → is_full_hand (in_hand e l) ≡ true
full-front e l x ys is = grind arith

pub empty-front : (e : ℕ) (l ys : Slots) → l ≡ (e, None) ∷ ys → is_empty_hand (in_hand e l) ≡ true
empty-front e l ys is = grind arith
