-- Steps at a table of two nodes and three edges.
use Rattle.exec_tests.proofs.TableRows.{IsStartNode, NodeSeat, NodeView, content, edge_wire, edges_in, slot_has_content, idle, test_sizes, Act, StepAnswer, Bool, Flags, Identity, IsSeatOf, MakesStep, MakesUpdated, None, NodeState, Option, Some, Step, acting_end, allows, ap, arith, can_act, end_of_view, eqb, false, flags, get_or, nothing, refl, seen_as, slot_in, slot_of, subst, sym, true, view, ℕ, ◌&&◌, ◌+◌, ◌<◌, ◌∙◌, ◌≡◌}
use Rattle.exec_table.proofs.Imports.{Chunk, changed, edges_of, fits_end, flags_at, has, is_end, knows, ne_eqb, no_flags, no_wire, ready, ◌≢◌}
use Rattle.core_laws.proofs.Lists.{seeing-here}
use Rattle.core_laws.specs.declared.types.Step.TheVariants as step
use Rattle.exec_table.specs.Known.{LooksAt, core_state_after, is_at, slot_looked, state_acted}
use Rattle.exec_table.specs.declared.types.Updated.{Updated}
use Rattle.exec_table.proofs.Ends.{edges-made, look-made, look-slot, number-made, same-made, stage-made}
use Rattle.exec_table.proofs.Hands.{by_index, may_learn}
use Rattle.exec_table.proofs.Known.{state-made, turn-fits, wire-made}
use Rattle.exec_tests.specs.TableSlots.{SeesEdges, put}

-- ---- the start

wire-at : (d : ℕ) → has d (edges_in true) ≡ true
    → (d < 3) × (get_or (test_sizes true).wires d no_wire ≡ edge_wire d)
wire-at d k = grind arith

module _ {n : ℕ} {t : Identity} {s mid : NodeSeat} (f : IsStartNode true n t s)
    (first : MakesStep t s mid step.TokenIn None nothing) where
  state-in : (view mid).state ≡ idle true 1
  state-in = state-made f.seat first
      ∙ ap (λ (z : NodeState). record z { tokens = z.tokens + 1 }) f.state

  pub may-begin : ready (view mid) step.Begin ≡ true
  may-begin = grind (arith, state-in, stage-made f.seat first, f.stage)

  pub begun : {new : NodeSeat} {u : Updated} → MakesUpdated t mid new step.Begin u
      → SeesEdges n (λ _. no_flags) (λ _. None) t new
  begun {new} second = let m = second.makes in let o = first.seat in
      let seen = ap (λ (z : NodeState). z.seen) (state-made o m)
      ∙ ap (λ (z : NodeState). z.seen) state-in in record {
        sizes = f.sizes;
        seat = m.seat;
        number = number-made o m ∙ (number-made f.seat first ∙ f.number);
        held = ap (λ (z : NodeState). z.held) (state-made o m);
        learned = ap edges_of seen;
        wire = λ d k. grind (arith, wire-made o m d (ap (knows d) seen ∙ k), wire-at d k, f.sizes);
        flags = λ d. ap (flags_at d) seen ∙ grind arith;
        slot = λ d. ap content ((same-made o m d refl).slot
            ∙ ((same-made f.seat first d refl).slot ∙ ap (slot_in d) f.slots));
      }

-- ---- steps at ports

module _ {n : ℕ} {f : ℕ → Flags} {y : ℕ → Option Bool} {t : Identity} {s : NodeSeat}
    (h : SeesEdges n f y t s) where
  here : (e : ℕ) → has e (edges_in true) ≡ true → knows e (view s).state.seen ≡ true
  here e k = ap (has e) h.learned ∙ k

  pub sees : (e : ℕ) → has e (edges_in true) ≡ true → ready (view s) (step.Look e) ≡ true
  sees e k = (λ i. h.held i && has e (h.learned i)) ∙ k

  pub can : (a : Act) (e : ℕ) → has e (edges_in true) ≡ true
      → (is_end (acting_end a) n (Some (edge_wire e)) && allows a (f e)) ≡ true
      → can_act a (view s) e ≡ true
  can a e k may = (λ i. ((h.held i && here e k i)
      && is_end (acting_end a) (h.number i) (h.wire e k i)) && allows a (h.flags e i)) ∙ may

  module _ {new : NodeSeat} (e : ℕ) (k : has e (edges_in true) ≡ true) where
    -- a step at the edge e, after which it is seen as g
    steps : {p : Step} {x : Option Chunk} {a : StepAnswer} {g : Flags} → MakesStep t s new p x a
        → ((d : ℕ) → is_at d p ≡ eqb d e) → may_learn p ≡ false
        → (core_state_after (view s) p a).held ≡ (view s).state.held
        → flags_at e (core_state_after (view s) p a).seen ≡ g
        → SeesEdges n (put f e g) (put y e (content (slot_of new e))) t new
    steps m at plain held g = record {
      sizes = h.sizes;
      seat = m.seat;
      number = number-made h.seat m ∙ h.number;
      held = ap (λ (z : NodeState). z.held) (state-made h.seat m) ∙ (held ∙ h.held);
      learned = edges-made h.seat m plain ∙ h.learned;
      wire = λ d l. grind (
        arith,
        wire-made h.seat m d (ap (has d) (edges-made h.seat m plain
            ∙ h.learned) ∙ l),
        wire-at d l,
        h.sizes,
      );
      flags = λ d. by_index d e _ _ _ (λ q. ap (λ c. flags_at c (view new).state.seen) q
          ∙ (ap (λ (z : NodeState). flags_at e z.seen) (state-made h.seat m) ∙ g))
          (λ ne. (same-made h.seat m d (at d ∙ ne_eqb d e ne)).flags ∙ h.flags d);
      slot = λ d. by_index d e _ _ _ (λ q. ap (λ c. content (slot_of new c)) q)
          (λ ne. ap content (same-made h.seat m d (at d ∙ ne_eqb d e ne)).slot ∙ h.slot d);
    }

    pub acts : (a : Act) {p : Step} {x : Option Chunk} → MakesStep t s new p x nothing
        → core_state_after (view s) p nothing ≡ state_acted a (view s) e
        → ((d : ℕ) → is_at d p ≡ eqb d e) → may_learn p ≡ false
        → SeesEdges n (put f e (changed a (f e))) (put y e (content (slot_of new e))) t new
    acts a m is at plain = steps m at plain (ap (λ (z : NodeState). z.held) is)
        (ap (λ (z : NodeState). flags_at e z.seen) is
        ∙ (seeing-here e _ (view s).state.seen (here e k) ∙ ap (changed a) (h.flags e)))

    -- a look at a slot whose turn has come
    pub looks : {g : Flags} (b : Bool) → MakesStep t s new (step.Look e) None (flags g) → y e ≡ None
        → g ≡ seen_as false b → eqb 1 n ≡ b → SeesEdges n (put f e (seen_as false b))
        (put y e (Some b)) t new
    looks {g} b m home is side = subst (λ (z : Flags × Option Bool). SeesEdges n (put f e z.0)
        (put y e z.1) t new) (λ i. (is i, out i))
        (steps m (λ _. refl) refl refl (seeing-here e g (view s).state.seen (here e k)))
      where
        turns : LooksAt (eqb 1 n) g (end_of_view (view s) e) (end_of_view (view new) e)
        turns = subst (λ (c : Bool). LooksAt c g (end_of_view (view s) e)
            (end_of_view (view new) e)) (λ i. is_end true (h.number i) (h.wire e k i))
            (look-made h.seat m)

        fits : (v : Option Chunk) → (end_of_view (view new) e).turn ≡ Some v
            → fits_end (eqb 1 n) v ≡ true
        fits v q = let j = steps m (λ _. refl) refl refl refl in
            sym (λ i. fits_end (is_end true (j.number i) (j.wire e k i)) v)
            ∙ turn-fits h.seat m e (ap (has e) j.learned ∙ k) v q

        bare : (z : Option (Option Chunk)) → content z ≡ None → z ≡ None
        bare None q = refl
        bare (Some v) q = grind (arith, q)

        out : content (slot_of new e) ≡ Some b
        out = ap content (look-slot h.seat m ∙ ap (λ z. slot_looked z
            (end_of_view (view new) e).turn) (bare _ (h.slot e ∙ home)))
            ∙ slot_has_content b _ (turns.turn ∙ grind (arith, side, is))
            (λ v q. ap (λ b. fits_end b v) (sym side) ∙ fits v q)

  -- a chunk is lifted
  pub lifts : (e : ℕ) {new : NodeSeat} → IsSeatOf t new → view new ≡ view s
      → slot_of new e ≡ Some None → ((d : ℕ) → d ≢ e → slot_of new d ≡ slot_of s d)
      → SeesEdges n f (put y e (Some false)) t new
  lifts e {new} seat same lifted others = record {
    sizes = h.sizes;
    seat = seat;
    number = ap (λ (v : NodeView). v.number) same ∙ h.number;
    held = ap (λ (v : NodeView). v.state.held) same ∙ h.held;
    learned = ap (λ (v : NodeView). edges_of v.state.seen) same ∙ h.learned;
    wire = λ d k. ap (λ (v : NodeView). (end_of_view v d).wire) same ∙ h.wire d k;
    flags = λ d. ap (λ (v : NodeView). flags_at d v.state.seen) same ∙ h.flags d;
    slot = λ d. by_index d e _ _ _ (λ at. ap (λ k. content (slot_of new k)) at ∙ ap content lifted)
        (λ ne. ap content (others d ne) ∙ h.slot d);
  }
