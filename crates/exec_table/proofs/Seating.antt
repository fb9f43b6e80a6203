-- What a seat is after a step of its node, and what the call tells.
use Rattle.exec_table.proofs.Imports.{Allows, StepAnswer, Board, Bool, Chunk, CoreState, Did, ViewFits, Holds, IsSeen, NodeView, None, Option, Sat, Shown, Sizes, Some, State, Step, View, Wire, [], aiming, and_parts, answer, ap, arith, board_after, carried_after, cases_Bool, edge_count, end_of_view, false, front, get_elem?, get_or, inl, is_at_hand, keeps, knows, length, may, node_at, node_view, or_cases, place, port_at, refl, set-get_or, sizes-kept, slot_act, stepped, subst, sym, true, wire_of, wire_place, wire_word, words_of, ℕ, ◌+◌, ◌-◌, ◌<◌, ◌∙◌, ◌∷◌, ◌≡◌, ◌≤◌, wire_ok, EndOf, an-end, node_place, length-map-range_with_len, port_place, ready, Seat, HandHolds, Identity, IsSeatOf, MakesStep, Slots, edges_out, identity_of, sizes_in, slots, view, ExecTable, NodeSeat, deque_capacity, slot_in, first_or_none}
use Rattle.exec_table.specs.Plays.{first_node}
use Rattle.exec_table.specs.Seats.{KeepsSlots}
use Rattle.exec_table.proofs.Readiness.{view-end, edge-count}
use Rattle.exec_table.proofs.Wording.{op, read-wire}
use Rattle.exec_table.proofs.Showing.{fits-one, fits-set, shown_by_other_views}
use Rattle.exec_table.proofs.Tied.{tied}
use Rattle.exec_table.proofs.Hands.{hand-after, moves_slot}

-- ---- wires

-- a wire within the limits is read back from its word
pub wire-read : (n : ℕ) (w : Wire) → n ≤ 256 → wire_ok n w ≡ true → wire_of (wire_word (Some w)) ≡ w
wire-read n w many ok = grind arith

-- a learned edge is seen with its wire
pub known-wire : (b : Board) (n e : ℕ) → Holds b → knows e (node_at b.core n).seen ≡ true
    → (end_of_view (node_view b n) e).wire ≡ (port_at b.core e).wire
known-wire b n e h k = grind (arith, view-end, or_cases, edge-count, cases_Bool)

-- what the wire word of an edge tells that has a wire
pub wire-told : (b : Board) (e : ℕ) (w : Wire) → Holds b → e < length b.core.ports
    → (port_at b.core e).wire ≡ Some w
    → (wire_of (get_or (words_of b.core) (wire_place b.core.sizes e) 0) ≡ w)
    × (wire_ok b.core.sizes.nodes w ≡ true)
wire-told b e w h i is = grind (arith, read-wire, wire-read)

-- the same board, seen by a seat with another view
pub shown_to_new_view : (key : Sizes) (st : State (Option Chunk) View) (r : Shown key st) (id i : ℕ)
    (m : Sat)
    (w : View) → ViewFits r.board r.owner id w
    → Shown key (stepped st i (get_or st.words i 0) id m.1 w keeps)
shown_to_new_view key st r id i m w fits =
    shown_by_other_views r (set-get_or st.words i 0) refl r.owner
    (fits-set _ _ _ (ViewFits r.board r.owner) fits (λ j v _. r.seats j v))

-- the seat may look a wire up
pub aim-allowed : (key : Sizes) (slots id : ℕ) (m : Sat) (x : NodeView) (e i : ℕ)
    → m.0.nodes ≡ x ∷ [] → x.sizes ≡ key → knows e x.state.seen ≡ true → i ≡ wire_place key e
    → Allows (Shown key) slots id m i (λ n. n)
    (λ n m'. (m' ≡ (aiming e x, m.1)) × ((end_of_view x e).wire ≡ Some (wire_of n))
    × (wire_ok x.sizes.nodes (wire_of n) ≡ true))
aim-allowed key slots id m x e i single sizes known at st r deep mine fit = (
  aiming e x,
  keeps,
  tt,
  shown_to_new_view key st r id i m (aiming e x)
      (fits-one r.board r.owner id (aiming e x) x refl refl
      (omega arith) (λ k q. absurd (cc)) here),
  (
    refl,
    ap (λ y. (end_of_view y e).wire) here.is ∙ (known-wire b x.number e r.holds seen
        ∙ (edge.1.is ∙ ap Some (sym read))),
    (λ k. wire_ok (here.is k).sizes.nodes (read k)) ∙ told.1,
  ),
)
  where
    b : Board
    b = r.board

    here : IsSeen b r.owner id x
    here = (r.seats id m.0 mine).each 0 x (ap (λ l. get_elem? l 0) single)

    seen : knows e (node_at b.core x.number).seen ≡ true
    seen = subst (λ (y : NodeView). knows e y.state.seen ≡ true) here.is known

    inside : e < length b.core.ports
    inside = r.holds.laws.edges.known x.number e seen

    edge : (a : Bool) × EndOf a x.number (port_at b.core e).wire
    edge = an-end x.number (port_at b.core e).wire
        ((r.holds.laws.edges.each e inside).learned x.number seen)

    told : (wire_of (get_or (words_of b.core) (wire_place b.core.sizes e) 0) ≡ edge.1.wire)
        × (wire_ok b.core.sizes.nodes edge.1.wire ≡ true)
    told = wire-told b e edge.1.wire r.holds inside edge.1.is

    read : wire_of (get_or st.words i 0) ≡ edge.1.wire
    read = (λ k. wire_of (get_or (r.words k)
        ((at ∙ ap (λ s. wire_place s e) (sym r.sizes)) k) 0)) ∙ told.0

-- ---- a seat after a step

-- the call made the step s, which put x; the slots that were out before it are `l`
pub makes : {t : Identity} {old new : NodeSeat} {s : Step} {l : Slots} {x : Option Chunk}
    {found : ℕ} {a : StepAnswer} → IsSeatOf t old → (d : Did (view old) s l found new.seat.me)
    → HandHolds (node_view (board_after d.before (view old).number s (front l)) (view old).number)
    (slots new) → new.seat.table_id ≡ old.seat.table_id → new.node ≡ old.node
    → new.held.items ≡ edges_out (slots new) → deque_capacity new.held ≡ deque_capacity old.held
    → board_after d.before (view old).number s (front l)
    ≡ board_after d.before (view old).number s x
    → answer d.before.core (view old).number s ≡ a → KeepsSlots old new → MakesStep t old new s x a
makes {t} {old} {new} {s} {l} {x} o d hand table node places room put says kept = record {
  seat = grind (arith, length-map-range_with_len, and_parts, sizes);
  before = d.before;
  holds = d.holds;
  was = d.was;
  may = d.may;
  kept = subst Holds put d.kept;
  now = grind (arith, d.view, put);
  found = ap (λ v. v.found) d.view ∙ d.word;
  says = says;
  carried = kept;
}
  where
    n : ℕ
    n = (view old).number

    sizes : (board_after d.before n s (front l)).core.sizes ≡ t.sizes
    sizes = sizes-kept d.before.core n s ∙ (ap (λ x. x.sizes) d.was ∙ o.sizes)

-- a step that moves no slot
still : (s : Step) → moves_slot s ≡ false → (l : Slots) → (is_at_hand s l ≡ true)
    × ((b : Board) (n : ℕ) (x : Option Chunk) → (slot_act b n s ≡ keeps)
    × (board_after b n s x ≡ board_after b n s None))
still s h l = (grind (arith, h), (λ b n x. (grind (arith, h), grind (arith, h))))

pub quiet-makes : {t : Identity} {old new : NodeSeat} {found : ℕ} {a : StepAnswer} {s : Step}
    → moves_slot s ≡ false → IsSeatOf t old → (d : Did (view old) s (slots old) found new.seat.me)
    → new.seat.table_id ≡ old.seat.table_id → new.node ≡ old.node → new.held ≡ old.held
    → answer d.before.core (view old).number s ≡ a → MakesStep t old new s None a
quiet-makes {t} {old} {new} {found} {a} {s} quiet o d table node held says =
    let same = (still s quiet (slots old)).1 d.before (view old).number (front (slots old)) in
    let is : slots new ≡ slots old = d.hand ∙ ap (carried_after (slots old)) same.0 in
    let hand = hand-after d.before (view old).number d.holds (slots old) in
    let free = (still s quiet (slots old)).0 in
    makes o d (grind (arith, d.hand, d.was, o.hand, hand, free, d.may, d.kept)) table node
    (ap (λ h. h.items) held ∙ (o.places ∙ ap edges_out (sym is))) (ap deque_capacity held) same.1
    says (λ k v q. inl (ap (slot_in k) (sym is) ∙ q))

-- ---- what a step asks

-- the place of an edge's word: that of its port, or that of its wire
abbrev pub edge_place : Bool → Sizes → ℕ → ℕ
edge_place true z e = port_place z e
edge_place false z e = wire_place z e

-- the place names the edge
pub place-edge : (k : Bool) (t : Identity) (s : NodeSeat) (e i : ℕ) → IsSeatOf t s
    → i ≡ edge_place k t.sizes e → i - edge_place k (view s).sizes 0 ≡ e
place-edge k t s e i o at = grind arith

pub place-inside : (k : Bool) (t : ExecTable) (e i : ℕ) → e < edge_count (sizes_in t)
    → i ≡ edge_place k (sizes_in t) e → i < t.table.shared.table_id.words
place-inside true t e i less at = grind arith
place-inside false t e i less at = grind arith

-- what a step asks that makes f of the word i, for a seat that is then told so
abbrev pub Asks : ExecTable → Seat (Option Chunk) View → ℕ → (ℕ → ℕ) → (ℕ → Sat → Type 0) → Type 0
Asks t r i f told = let id = t.table.shared.table_id in (r.table_id ≡ id) × (i < id.words)
    × Allows (Shown (sizes_in t)) id.slots r.id r.me i f told

-- a step of a seat whose aim and slots may have changed meanwhile
pub word-asks : (t : ExecTable) {s : NodeSeat} {i : ℕ} {f : ℕ → ℕ} {sp : Step}
    (r : Seat (Option Chunk) View) → IsSeatOf (identity_of t) s → r.table_id ≡ s.seat.table_id
    → r.me.0.nodes ≡ view s ∷ [] → i < t.table.shared.table_id.words → ready (view s) sp ≡ true
    → is_at_hand sp r.me.1 ≡ true
    → ((b : Board) → Holds b → node_view b (view s).number ≡ view s → b.core.sizes ≡ sizes_in t
    → may b.core (view s).number sp ≡ true
    → (i ≡ place b.core (view s).number sp) × ((w : ℕ) → f w ≡ op b.core (view s).number sp w))
    → Asks t r i f (Did (view s) sp r.me.1)
word-asks t {s} {i} {f} {sp} r o table single less g full at =
    (table ∙ o.table, less, tied (sizes_in t) _ r.id r.me (view s) sp i f single g full at)

-- a step at a word of the edge e
pub edge-asks : (t : ExecTable) {s : NodeSeat} {i : ℕ} {f : ℕ → ℕ} (k : Bool)
    (r : Seat (Option Chunk) View) (mk : NodeView → ℕ → Step) (e : ℕ) → IsSeatOf (identity_of t) s
    → r.table_id ≡ s.seat.table_id → r.me.0.nodes ≡ view s ∷ [] → e < edge_count (sizes_in t)
    → i ≡ edge_place k (sizes_in t) e → ready (view s) (mk (view s) e) ≡ true
    → is_at_hand (mk (view s) e) r.me.1 ≡ true
    → ((c : CoreState) (n w : ℕ) → (place c n (mk (view s) e) ≡ edge_place k c.sizes e)
    × (f w ≡ op c n (mk (view s) e) w))
    → Asks t r i f
    (Did (first_node r.me.0) (mk (first_node r.me.0) (i - edge_place k (first_node r.me.0).sizes 0))
    r.me.1)
edge-asks t {s} {i} {f} k r mk e o table single less at g full ops =
    subst (λ (x : NodeView). Asks t r i f (Did x (mk x (i - edge_place k x.sizes 0)) r.me.1))
    (sym (ap first_or_none single))
    (subst (λ d. Asks t r i f (Did (view s) (mk (view s) d) r.me.1))
    (sym (place-edge k (identity_of t) s e i o at)) (word-asks t r o table single
    (place-inside k t e i less at) g full (λ b h is sizes can. (
      at ∙ (ap (λ z. edge_place k z e) (sym sizes) ∙ sym (ops b.core (view s).number 0).0),
      (λ w. (ops b.core (view s).number w).1),
    ))))

-- what that step did
pub edge-did : {t : Identity} {s : NodeSeat} {n : Sat} {i found : ℕ} (m : Sat) (k : Bool)
    (mk : NodeView → ℕ → Step) (e : ℕ) → IsSeatOf t s → first_node m.0 ≡ view s
    → i ≡ edge_place k t.sizes e → Did (first_node m.0)
    (mk (first_node m.0) (i - edge_place k (first_node m.0).sizes 0)) m.1 found n
    → Did (view s) (mk (view s) e) m.1 found n
edge-did {t} {s} {n} {i} {found} m k mk e o same at d = grind (arith, place-edge)

-- a step at the node's own word
pub node-asks : (t : ExecTable) {s : NodeSeat} {i : ℕ} {f : ℕ → ℕ} {sp : Step}
    → IsSeatOf (identity_of t) s → i ≡ s.node + 1 → ready (view s) sp ≡ true
    → is_at_hand sp (slots s) ≡ true
    → ((c : CoreState) (n w : ℕ) → (place c n sp ≡ node_place n) × (f w ≡ op c n sp w))
    → Asks t s.seat i f (Did (view s) sp (slots s))
node-asks t {s} o at g full ops = word-asks t s.seat o refl o.single
    (let w = t.words in let n = t.nodes_are in let k = o.number in let l = o.inside in
    omega (arith, w, n, k, l, at)) g full (λ b h is sizes can. (
      at ∙ (ap (λ k. k + 1) o.number ∙ sym (ops b.core (view s).number 0).0),
      (λ w. (ops b.core (view s).number w).1),
    ))

-- ---- a seat that a call touched otherwise

-- a seat of which only the slots that are out were touched
pub seat-other : (t : Identity) (s r : NodeSeat) → IsSeatOf t s
    → r.seat.table_id ≡ s.seat.table_id → r.seat.me.0.nodes ≡ s.seat.me.0.nodes → r.node ≡ s.node
    → HandHolds (view s) (slots r) → r.held.items ≡ edges_out (slots r)
    → deque_capacity r.held ≡ deque_capacity s.held → IsSeatOf t r
seat-other t s r o table same node hand places room = grind arith
