-- Steps at a table of two nodes and one edge; and the names that the tests' proofs use.
pub use Rattle.exec_table.proofs.Imports.{take, Act, StepAnswer, Bool, Flags, Identity, IsSeatOf, List, MakesStep, NodeState, None, Option, Pull, Push, Slots, Some, Step, Want, Wire, [], acting_end, allows, and_from, ap, arith, can_act, cases_Bool, cond, drop, edges_out, end_of_view, eqb, eqb-true, false, get_or, holds_chunk, identity_of, inl, inr, is_some, sizes_in, length, length-append, map, marked_peer, not, ready, refl, rules, slot_in, slot_of, slots, spent, subst, suc, sym, true, view, zero, ℕ, ⊎_elim, ◌&&◌, ◌++◌, ◌+◌, ◌-◌, ◌<◌, ◌||◌, ◌∙◌, ◌∷◌, ◌≡◌}
use Rattle.exec_table.proofs.Imports.{AreAll, Chunk, EachSeat, IsBack, IsOpen, fits_end, flags_at, get_elem?, has, is_end, knows, no_flags, no_wire, node_view, some, start_board, without}
use Rattle.std.proofs.Math.Seq.{take-append_seam}
pub use Rattle.std.specs.Option.{option_to_list}
pub use Rattle.core_laws.specs.Steps.{flags, is_idle as tells_idle, nothing}
use Rattle.core_laws.specs.declared.types.Step.TheVariants as step
use Rattle.exec_table.specs.Known.{core_state_after}
pub use Rattle.exec_table.specs.Seats.{MakesUpdated, is_idle, marked_of, updated_of}
pub use Rattle.exec_table.specs.declared.types.Marked.TheVariants.{AlreadyDue, Charged}
pub use Rattle.exec_table.specs.declared.types.Rested.TheVariants.{UpdatedAgain}
use Rattle.exec_table.specs.declared.types.Updated.{Updated}
use Rattle.exec_table.proofs.Hands.{has-slot}
use Rattle.exec_table.proofs.Known.{state-made, turn-fits, wire-made}
use Rattle.exec_tests.proofs.Fitting.{fit-last, fit-rest, fit-two}
pub use Rattle.exec_table.specs.declared.types.NodeView.{NodeView}
pub use Rattle.exec_tests.specs.TableRows.{Born, ExecTable, NodeSeat, Is, IsStartNode, IsHeld, Saw, content, edge_wire, edges_in, idle, node, seen_as, test_sizes, was_charged}

module _ {n : ℕ} {st : NodeState} {t : ExecTable} {s : NodeSeat} (is : Is n st t s) where
  pub can : (p : Step) → ready (record (view s) { state = st }) p ≡ true → ready (view s) p ≡ true
  can p = subst (λ z. ready (record (view s) { state = z }) p ≡ true) (sym is.state)

  -- a step that answered a
  pub stepped : {new : NodeSeat} {p : Step} {x : Option Chunk} {a b : StepAnswer}
      → MakesStep (identity_of t) s new p x a → a ≡ b
      → Is n (core_state_after (record (view s) { state = st }) p b) t new
  stepped {p = p} m q = record {
    pair = is.pair;
    seat = m.seat;
    number = sym (ap (λ (v : NodeView). v.number) m.now) ∙ is.number;
    state = state-made is.seat m
        ∙ (λ i. core_state_after (record (view s) { state = is.state i }) p (q i));
  }

at-first : {n : ℕ} {t : ExecTable} {s : NodeSeat} → IsStartNode false n (identity_of t) s
    → Is n (idle false 0) t s
at-first f = record { pair = f.sizes; seat = f.seat; number = f.number; state = f.state }

-- a node that was charged keeps its token
pub begin_keeps_token : {n : ℕ} {t : ExecTable} {s mid new : NodeSeat} {u : Updated}
    → IsStartNode false n (identity_of t) s
    → MakesStep (identity_of t) s mid step.TokenIn None nothing
    → MakesUpdated (identity_of t) mid new step.Begin u
    → was_charged u ≡ true → IsHeld n 1 t new
begin_keeps_token {n = n} {t = t} {new = new} f first m h =
    subst (λ k. IsHeld n k t new) (kept m.word (ap was_charged (sym m.ports) ∙ h)) record {
      flags = no_flags;
      unlooked = 0 ∷ [];
      only = refl;
      is = stepped (stepped (at-first f) first refl) m.makes refl;
    }
  where
    kept : (w : ℕ) → was_charged (updated_of w) ≡ true → 1 - spent w ≡ 1
    kept w h = grind (arith, h, cases_Bool (eqb w 0), eqb-true w 0)

-- an edge that was due may be looked at
pub only-due : (due : Bool) → without 0 (cond due (0 ∷ []) []) ≡ []
only-due due = grind arith

-- ---- looks

pub in-hand : {n : ℕ} {st : NodeState} {t : ExecTable} {s : NodeSeat} → Is n st t s
    → is_some (slot_of s 0) ≡ has 0 s.held.items
in-hand {s = s} is = sym (has-slot 0 (slots s)) ∙ ap (has 0) (sym is.seat.places)

module _ {n k : ℕ} {t : ExecTable} {s new : NodeSeat} {f : Flags}
    (h : IsHeld n k t s) (m : MakesStep (identity_of t) s new (step.Look 0) None (flags f)) where
  abbrev pub looked : IsHeld n k t new
  looked = record {
    flags = f;
    unlooked = without 0 h.unlooked;
    only = ap (without 0) h.only;
    is = stepped h.is m refl;
  }

  pub saw : has 0 s.held.items ≡ false → Saw n k f t new
  saw home = record {
    is = subst (λ u. Is n (node true k f u false) t new) h.only looked.is;
    wire = wire;
    fits = λ v q. subst (λ (y : ℕ × Option Wire). fits_end (is_end true y.0 y.1) v ≡ true)
        (λ i. (looked.is.number i, wire i)) (turn-fits h.is.seat m 0 seen v (⊎_elim
        (λ (e : slot_of s 0 ≡ Some v). absurd (let y : true ≡ false = ap is_some (sym e)
        ∙ (in-hand h.is ∙ home) in cc)) (λ e. e.1) (m.carried 0 v q)));
  }
    where
      seen : knows 0 (view new).state.seen ≡ true
      seen = ap (λ (z : NodeState). knows 0 z.seen) looked.is.state

      wire : (end_of_view (view new) 0).wire ≡ Some (edge_wire 0)
      wire = wire-made h.is.seat m 0 seen (let l = ap (λ z. length z.wires) h.is.pair in
          omega (arith, l)) ∙ ap (λ z. Some (get_or z.wires 0 no_wire)) h.is.pair

module _ {n k : ℕ} {f : Flags} {t : ExecTable} {s : NodeSeat} (w : Saw n k f t s) where
  pub can-act : (a : Act) → (is_end (acting_end a) n (Some (edge_wire 0)) && allows a f) ≡ true
      → can_act a (view s) 0 ≡ true
  can-act a h = (λ i. (((w.is.state i).held && knows 0 (w.is.state i).seen)
      && is_end (acting_end a) (w.is.number i) (w.wire i))
      && allows a (flags_at 0 (w.is.state i).seen)) ∙ h

-- what the slot has that is out with an end
pub slot_has_content : (b : Bool) (z : Option (Option Chunk)) → is_some z ≡ true
    → ((v : Option Chunk) → z ≡ Some v → fits_end b v ≡ true) → content z ≡ Some b
slot_has_content b None q fits = absurd (let z : false ≡ true = q in cc)
slot_has_content b (Some v) q fits = grind (arith, fits v refl)

pub full : (z : Option (Option Chunk)) → content z ≡ Some true → holds_chunk z ≡ true
full z q = grind arith

pub empty : (z : Option (Option Chunk)) → content z ≡ Some false → z ≡ Some None
empty z q = grind arith

-- ---- the start and the end

-- a seat as it was dealt
pub first : (many one : Bool) (t : Identity) (s : NodeSeat) → t.sizes ≡ test_sizes many
    → IsOpen t (cond one 1 0) s → IsStartNode many (cond one 1 0) t s
first many one t s sizes start =
    let is = start.1 ∙ ap (λ z. node_view (start_board z) (cond one 1 0)) sizes in record {
      sizes = sizes;
      seat = start.0;
      number = ap (λ (v : NodeView). v.number) is;
      state = ap (λ (v : NodeView). v.state) is ∙ (unbegun many one).0;
      stage = ap (λ (v : NodeView). v.stage) is ∙ (unbegun many one).1;
      slots = start.2;
    }
  where
    unbegun : (many one : Bool) → let x =
        node_view (start_board (test_sizes many)) (cond one 1 0) in
        (x.state ≡ idle many 0) × (x.stage ≡ Born)
    unbegun false false = (refl, refl)
    unbegun false true = (refl, refl)
    unbegun true false = (refl, refl)
    unbegun true true = (refl, refl)

pub dealt_are_open : (t : ExecTable) (all l m : List NodeSeat) (a b : NodeSeat)
    → all ≡ l ++ b ∷ [] → l ≡ m ++ a ∷ [] → length all ≡ 2
    → ((k : ℕ) (s : NodeSeat) → get_elem? all k ≡ some s → IsOpen (identity_of t) k s)
    → IsOpen (identity_of t) 0 a × IsOpen (identity_of t) 1 b
dealt_are_open t all l m a b is rest n each = let u = ap length is in let v =
    length-append l (b ∷ []) in
    let fits : NodeSeat → ℕ → Type 0 = λ s k. IsOpen (identity_of t) k s in (
      fit-last fits l m a rest (fit-rest fits all l b is each) 0 (omega (arith, n, u, v)),
      fit-last fits all l b is each 1 n,
    )

pub all-two : (t : Identity) (l : List NodeSeat) (a b : NodeSeat) → t.sizes ≡ test_sizes false
    → l ≡ a ∷ b ∷ [] → IsSeatOf t a × ((view a).number ≡ 0) → IsSeatOf t b × ((view b).number ≡ 1)
    → AreAll t l
all-two t l a b pair is of-a of-b = (
  ap length is ∙ sym (ap (λ z. z.nodes) pair),
  fit-two (λ s k. IsSeatOf t s × ((view s).number ≡ k)) l a b is of-a of-b,
)

-- seats that a survey gave back, in the vector that lent them
pub still-all : (t : Identity) (lent items news : List NodeSeat) (k : ℕ) → lent ≡ items
    → k ≡ length items → length news ≡ length lent → AreAll t lent → EachSeat (IsBack t) lent news
    → AreAll t (take k (news ++ drop (length news) items))
still-all t lent items news k is many count all back = subst (AreAll t)
    (sym (ap (λ k. take k (news ++ drop (length news) items))
    (many ∙ (sym (ap length is) ∙ sym count)) ∙ take-append_seam news _)) (
      count ∙ all.0,
      λ i s q. let b = back i s q in (
        b.2.0,
        ap (λ (v : NodeView). v.number) b.2.1 ∙ (all.1 i b.0 b.1).1,
      ),
    )
