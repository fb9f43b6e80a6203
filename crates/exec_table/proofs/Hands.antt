-- The slots that are out with a seat, after each step of its node.
use Rattle.exec_table.proofs.Imports.{Act, AreEdgesOnce, Board, Bool, Chunk, Close, CoreState, Finish, HandHolds, Holds, Lane, NodeView, None, Option, Pull, Push, Slots, Some, Step, Unwant, Want, Wire, [], acted, after, ap, arith, board_after, carried_after, cases_eq, cond, cond_both, edges_out, end_of_view, eqb, eqb-true, false, fits_end, front, get_or-set_other, get_or-set_same, has, inl, inr, is_at_hand, is_end, is_held_end, is_none, is_some, keeps, lane_at, learned, length, looked_at, may, may_act, names, no_lane, no_port, node_view, not, once-cons, once-head, once-tail, port_after, port_at, port_of, refl, rest, set, slot_act, slot_in, subst, sym, takes, true, turn_at, ℕ, ◌&&◌, ◌<◌, ◌∙◌, ◌∷◌, ◌≡◌, ◌≢◌, ◌⊎◌}
use Rattle.exec_table.proofs.Readiness.{view-end}
use Rattle.exec_table.proofs.Stepping.{act-parts, act-wire, holds-in}
use Rattle.exec_table.proofs.Tied.{filled-hand, emptied-hand, look-nothing}
use Rattle.core_laws.specs.declared.types.Step.TheVariants as step

-- the turn that the node n has at an edge
abbrev pub turn_for : ℕ → Option Wire → Lane → Option (Option Chunk)
turn_for n w l = cond (is_end true n w) (turn_at true l)
    (cond (is_end false n w) (turn_at false l) None)

-- an end has the turn of its own side
pub turn-of-end : (n : ℕ) (w : Option Wire) (l : Lane) → names n w ≡ true
    → turn_for n w l ≡ turn_at (is_end true n w) l
turn-of-end n w l h = grind arith

-- no turn where the slot is at home
pub home-turn : (n : ℕ) (w : Option Wire) (l : Lane) → l.taken ≡ false → turn_for n w l ≡ None
home-turn n w l q = grind arith

abbrev pub turn_in : Board → ℕ → ℕ → Option (Option Chunk)
turn_in b n e = turn_for n (port_at b.core e).wire (lane_at b e)

pub view-turn : (b : Board) (n e : ℕ) → Holds b → (end_of_view
    (node_view b n) e).turn ≡ turn_in b n e
view-turn b n e h = grind (arith, view-end)

-- ---- steps that move no slot

abbrev pub moves_slot : Step → Bool
moves_slot (step.Look e) = true
moves_slot (step.Push e k) = true
moves_slot (step.Pull e) = true
moves_slot s = false

-- the wires of a state
abbrev Wires : CoreState → CoreState → Type 0
Wires d c = (e : ℕ) → (port_at d e).wire ≡ (port_at c e).wire

act-wires : (a : Act) (c : CoreState) (n e : ℕ) → may_act a c n e ≡ true
    → Wires (acted a c n e) c
act-wires a c n e g d = let p = port_after a (port_at c e) in let which = cases_eq d e in
    let wire = act-wire a (port_at c e) in let here = get_or-set_same c.ports e p no_port in
    let other = get_or-set_other c.ports e d p no_port in let inside = holds-in c n e in
    grind (arith, wire, which, inside, here, other)

-- a step by which a node may learn an edge
abbrev pub may_learn : Step → Bool
may_learn (step.Wire e w) = true
may_learn (step.Wired e) = true
may_learn s = false

pub wires-kept : (c : CoreState) (n : ℕ) (s : Step) → may c n s ≡ true → may_learn s ≡ false
    → Wires (after c n s) c
wires-kept c n (step.Want e) g p = act-wires Want c n e g
wires-kept c n (step.Unwant e) g p = act-wires Unwant c n e g
wires-kept c n (step.Push e k) g p = act-wires (Push k) c n e g
wires-kept c n (step.Pull e) g p = act-wires Pull c n e g
wires-kept c n (step.Finish e) g p = act-wires Finish c n e g
wires-kept c n (step.ClosePort e) g p = act-wires Close c n e g
wires-kept c n s g p = λ e. grind (arith, p)

-- an edge without a wire has nothing on it, so no end has its turn, nor where it gets one
new-turn : (b : Board) (n d e : ℕ) (w : Wire) → Holds b → is_none (port_at b.core d).wire ≡ true
    → turn_for n (port_of (set b.core.ports d (record (port_at b.core d) { wire = Some w })) e).wire
    (lane_at b e) ≡ turn_in b n e
new-turn b n d e w h none = grind (arith, home-turn, cases_eq, get_or-set_other)

pub learned-ports : (c : CoreState) (n e : ℕ) → (learned c n e).ports ≡ c.ports
learned-ports c n e = grind arith

pub turns-kept : (b : Board) (n : ℕ) (s : Step) (x : Option Chunk) → Holds b → may b.core n s ≡ true
    → moves_slot s ≡ false → (e : ℕ) → turn_in (board_after b n s x) n e ≡ turn_in b n e
turns-kept b n (step.Wire d w) x h g q e = grind (arith, new-turn b n d e w h)
turns-kept b n (step.Wired d) x h g q e = grind (arith, learned-ports b.core n d)
turns-kept b n s x h g q e = grind (arith, q, wires-kept b.core n s g)

-- ---- lists of slots

-- the same turns at every edge
pub hand-same : (x y : NodeView) (slots : Slots)
    → ((e : ℕ) → (end_of_view y e).turn ≡ (end_of_view x e).turn) → HandHolds x slots
    → HandHolds y slots
hand-same x y slots same h = grind arith

-- one more slot
hand-more : (x y : NodeView) (slots : Slots) (d : ℕ) (v : Option Chunk)
    → (end_of_view x d).turn ≡ None
    → ((e : ℕ) → (end_of_view y e).turn ≡ cond (eqb e d) (Some v) (end_of_view x e).turn)
    → HandHolds x slots → HandHolds y ((d, v) ∷ slots)
hand-more x y slots d v none same h = record {
  once = once-cons d (edges_out slots) (h.turns d ∙ ap is_some none) h.once;
  turns = λ e. grind (arith, h.turns e, same e);
  lies = λ e w q. grind (arith, h.lies e w, same e, q);
}

pub has-slot : (e : ℕ) (l : Slots) → has e (edges_out l) ≡ is_some (slot_in e l)
has-slot e [] = refl
has-slot e (y ∷ ys) = grind (arith, has-slot e ys)

-- no slot, no value
pub no-slot : (e : ℕ) (slots : Slots) → has e (edges_out slots) ≡ false → slot_in e slots ≡ None
no-slot e [] h = refl
no-slot e (y ∷ ys) h = grind (arith, no-slot e ys)

-- one slot less
hand-less : (x y : NodeView) (slots : Slots) (d : ℕ) (v : Option Chunk)
    → ((e : ℕ) → (end_of_view y e).turn ≡ cond (eqb e d) None (end_of_view x e).turn)
    → HandHolds x ((d, v) ∷ slots) → HandHolds y slots
hand-less x y slots d v same h = let first = once-head d (edges_out slots) h.once in record {
  once = once-tail d (edges_out slots) h.once;
  turns = λ e. grind (arith, first, h.turns e, same e);
  lies = λ e w q. grind (arith, first, h.lies e w, same e, q, no-slot d slots);
}

-- ---- after a step

pub by_index : {A : Type 0} (e d : ℕ) (x y z : A) → (e ≡ d → x ≡ y) → (e ≢ d → x ≡ z)
    → x ≡ cond (eqb e d) y z
by_index e d x y z same other = grind (arith, cases_eq e d)

-- the turns that a step leaves whose edge d has the lane l after it
turn-set : (b c : Board) (n d : ℕ) (l : Lane) → Holds b → Holds c → d < length b.core.ports
    → c.lanes ≡ set b.lanes d l → Wires c.core b.core → (e : ℕ)
    → (end_of_view (node_view c n) e).turn
    ≡ cond (eqb e d) (turn_for n (port_at b.core d).wire l) (end_of_view (node_view b n) e).turn
turn-set b c n d l h after i lanes wires e = let same = get_or-set_same b.lanes d l no_lane in
    let other = get_or-set_other b.lanes d e l no_lane in let now = view-turn c n e after in
    let was = view-turn b n e h in let wire = wires e in let k = h.lane_count in
    by_index e d _ _ _ (λ t. grind (arith, now, t, wire, lanes, same, i, k))
    (λ ne. grind (arith, now, ne, wire, lanes, other, was))

-- the turn of a slot that a look takes
turn-looked : (b : Board) (n d : ℕ) → Holds b → is_held_end b.core n d ≡ true
    → (not (lane_at b d).taken
    && fits_end (is_end true n (port_at b.core d).wire) (lane_at b d).content) ≡ true
    → turn_for n (port_at b.core d).wire (looked_at (is_end true n (port_at b.core d).wire)
    (lane_at b d)) ≡ Some (lane_at b d).content
turn-looked b n d h g q = grind arith

-- what lies in a slot that was out, or in the one that was taken
taken-slot : (d e : ℕ) (c v : Option Chunk) (s t u : Option (Option Chunk))
    → t ≡ cond (eqb e d) (Some c) u → (e ≡ d → s ≡ None) → cond (eqb d e) (Some c) s ≡ Some v
    → (s ≡ Some v) ⊎ ((s ≡ None) × (t ≡ Some v))
taken-slot d e c v s t u is home q = elim (cases_eq e d) [
  | inl at ↦ inr (home at, grind (arith, is, q, at))
  | inr ne ↦ inl (grind (arith, q, ne))
]

-- the slots but the first
pub rest-slots : (l ys : Slots) (e : ℕ) (u : Option Chunk) → AreEdgesOnce (edges_out l)
    → l ≡ (e, u) ∷ ys → (d : ℕ) (v : Option Chunk) → slot_in d ys ≡ Some v → slot_in d l ≡ Some v
rest-slots l ys e u one is d v q =
    let first = once-head e (edges_out ys) (subst (λ l. AreEdgesOnce (edges_out l)) is one) in
    grind (arith, first, no-slot e ys)

module _ (b : Board) (n : ℕ) (h : Holds b) (slots : Slots) (hand : HandHolds (node_view b n) slots)
  where
    -- a look takes a slot, whose turn the view then has, or leaves all
    looked-turns : (d : ℕ) (x : Option Chunk) → is_held_end b.core n d ≡ true
        → Holds (board_after b n (step.Look d) x) → (e : ℕ)
        → (end_of_view (node_view (board_after b n (step.Look d) x) n) e).turn
        ≡ cond (eqb e d) (turn_for n (port_at b.core d).wire (looked_at (is_end true n
        (port_at b.core d).wire) (lane_at b d))) (end_of_view (node_view b n) e).turn
    looked-turns d x g after = turn-set b (board_after b n (step.Look d) x) n d _ h after
        (holds-in b.core n d g).1 refl (λ _. refl)

    hand-looked : (d : ℕ) (x : Option Chunk) → is_held_end b.core n d ≡ true
        → Holds (board_after b n (step.Look d) x)
        → HandHolds (node_view (board_after b n (step.Look d) x) n)
        (carried_after slots (slot_act b n (step.Look d)))
    hand-looked d x g after = let l = lane_at b d in let w = (port_at b.core d).wire in
        let y = node_view (board_after b n (step.Look d) x) n in
        let turns = looked-turns d x g after in let turn = turn-looked b n d h g in
        cond_both (not l.taken && fits_end (is_end true n w) l.content) (takes d l.content) keeps
        (λ z. HandHolds y (carried_after slots z))
        (λ q. hand-more (node_view b n) y slots d l.content
        (view-turn b n d h ∙ home-turn n w l (grind arith))
        (λ e. grind (arith, turns e, turn, q)) hand)
        (λ q. hand-same (node_view b n) y slots (λ e. let was = view-turn b n d h in
        grind (arith, turns e, look-nothing (is_end true n w) l q, was, eqb-true e d)) hand)

    -- a slot that is out after a look was out, or was taken with what lies in the port
    pub look-slots : (d : ℕ) (x : Option Chunk) → is_held_end b.core n d ≡ true
        → Holds (board_after b n (step.Look d) x) → (e : ℕ) (v : Option Chunk)
        → slot_in e (carried_after slots (slot_act b n (step.Look d))) ≡ Some v
        → (slot_in e slots ≡ Some v) ⊎ ((slot_in e slots ≡ None)
        × ((end_of_view (node_view (board_after b n (step.Look d) x) n) e).turn ≡ Some v))
    look-slots d x g after e v = let l = lane_at b d in let turns = looked-turns d x g after e in
        let turn = turn-looked b n d h g in let was = view-turn b n d h in
        let home = home-turn n (port_at b.core d).wire l in
        cond_both (not l.taken && fits_end (is_end true n (port_at b.core d).wire) l.content)
        (takes d l.content) keeps (λ z. slot_in e (carried_after slots z) ≡ Some v
        → (slot_in e slots ≡ Some v) ⊎ ((slot_in e slots ≡ None)
        × ((end_of_view (node_view (board_after b n (step.Look d) x) n) e).turn ≡ Some v)))
        (λ q. taken-slot d e l.content v _ _ _ (turns
        ∙ ap (λ t. cond (eqb e d) t (end_of_view (node_view b n) e).turn) (turn q))
        (λ at. ap (λ k. slot_in k slots) at
        ∙ no-slot d slots (grind (arith, hand.turns d, was, home)))) (λ _ r. inl r)

    -- a push or a pull, which leaves the lane m, whose slot is at home
    hand-given : (c : Board) (d : ℕ) (v : Option Chunk) (m : Lane) → Holds c
        → d < length b.core.ports → c.lanes ≡ set b.lanes d m → Wires c.core b.core
        → m.taken ≡ false → slots ≡ (d, v) ∷ rest slots → HandHolds (node_view c n) (rest slots)
    hand-given c d v m after i lanes wires home front =
        let none = home-turn n (port_at b.core d).wire m home in
        let turns = turn-set b c n d m h after i lanes wires in
        hand-less (node_view b n) (node_view c n) (rest slots) d v
        (λ e. grind (arith, turns e, none)) (grind (arith, front, hand))

    -- a push, whatever the slot has meanwhile
    pub hand-pushed : (d k : ℕ) (x v : Option Chunk) → may b.core n (step.Push d k) ≡ true
        → Holds (board_after b n (step.Push d k) x) → slots ≡ (d, v) ∷ rest slots
        → HandHolds (node_view (board_after b n (step.Push d k) x) n) (rest slots)
    hand-pushed d k x v g after front = hand-given (board_after b n (step.Push d k) x) d v _ after
        (holds-in b.core n d (act-parts (Push k) b.core n d g).0).1 refl
        (act-wires (Push k) b.core n d g) refl front

    -- any step
    pub hand-after : (s : Step) → may b.core n s ≡ true → is_at_hand s slots ≡ true
        → Holds (board_after b n s (front slots))
        → HandHolds (node_view (board_after b n s (front slots)) n)
        (carried_after slots (slot_act b n s))
    hand-after (step.Look d) g full after = hand-looked d (front slots) g after
    hand-after (step.Push d k) g full after = let y = filled-hand d slots full in
        hand-pushed d k (front slots) (Some y.0) g after y.1
    hand-after (step.Pull d) g full after =
        hand-given (board_after b n (step.Pull d) (front slots)) d None _ after
        (holds-in b.core n d (act-parts Pull b.core n d g).0).1 refl
        (act-wires Pull b.core n d g) refl (emptied-hand d slots full)
    hand-after s g full after = hand-same (node_view b n)
        (node_view (board_after b n s (front slots)) n) slots
        (λ e. view-turn (board_after b n s (front slots)) n e after
        ∙ (turns-kept b n s (front slots) h g refl e ∙ sym (view-turn b n e h))) hand
