-- What a seat knows of its edges, of its slots and of how far its node is, after a step.
use Rattle.exec_table.proofs.Imports.{EdgeHolds, StepAnswer, Begun, Board, Bool, Born, Chunk, CoreState, EdgeEnd, Flags, HandHolds, Holds, Identity, IsSeatOf, Lane, MakesStep, NodeSeat, NodeView, None, Option, Over, Pull, Push, Slots, Some, Stage, Step, Wire, after, answer, ap, arith, board_after, both_ways, cases_Bool, cases_eq, cond, edges-seeing, edges_of, end_for, end_of_view, end_view, eq-eqb, eqb, false, flags_at, get_or, get_or-set_other, get_or-set_same, has-last, inl, inr, is_end, is_none, is_some, knows, lane_at, learned, length, looked_at, map-append, may, names, ne_eqb, no_flags, no_lane, node_at, node_view, port_at, pulled_from, pushed_to, refl, set, slot_in, slot_of, slots, stage_at, subst, sym, true, view, wire_ok, wiring, ℕ, ◌&&◌, ◌<◌, ◌∙◌, ◌≡◌, ◌≢◌, ◌||◌, ◌⊎◌}
use Rattle.core_laws.proofs.Lists.{flags-last, seeing-other}
use Rattle.core_laws.specs.Steps.{flags}
use Rattle.core_laws.specs.declared.types.Step.TheVariants as step
use Rattle.exec_table.specs.Known.{IsSameAt, LooksAt, core_state_after, end_after, end_passed, end_wired, gives_back, is_at, looks_at, lying, slot_looked, stage_after, state_learned}
use Rattle.exec_table.proofs.Hands.{by_index, has-slot, learned-ports, may_learn, no-slot, wires-kept}
use Rattle.exec_table.proofs.Known.{node-inside, state-after, state-made}
use Rattle.exec_table.proofs.Readiness.{view-end}
use Rattle.exec_table.proofs.Stepping.{act-parts, holds-in, lane-full}

-- a step that learns no edge leaves which edges are known
edges-after : (x : NodeView) (s : Step) (a : StepAnswer) → may_learn s ≡ false
    → edges_of (core_state_after x s a).seen ≡ edges_of x.state.seen
edges-after x s a p = grind (arith, edges-seeing)

-- ---- ends, by their lanes

-- a node is one end of a wire
lone-end : (n k : ℕ) (w : Option Wire) → ((v : Wire) → w ≡ Some v → wire_ok k v ≡ true)
    → is_end false n w ≡ true → is_end true n w ≡ false
lone-end n k None ok h = refl
lone-end n k (Some v) ok h = let z = ok v refl in grind (arith, z, h)

pulled-end : (n : ℕ) (k : Bool) (w : Option Wire) (l : Lane) → is_end true n w ≡ true
    → is_some (end_for n k w l).turn ≡ true
    → end_for n k w (pulled_from l) ≡ end_passed (lying (end_for n k w l).turn) (end_for n k w l)
pulled-end n k w l h q = grind arith

pushed-end : (n : ℕ) (k : Bool) (w : Option Wire) (l : Lane) (x : Option Chunk)
    → is_end false n w ≡ true → is_end true n w ≡ false
    → end_for n k w (pushed_to x l) ≡ end_passed x (end_for n k w l)
pushed-end n k w l x h q = grind arith

looked-end : (n : ℕ) (w : Option Wire) (l : Lane) (f : Flags) → names n w ≡ true
    → f.has_data ≡ is_some l.content
    → LooksAt (is_end true n w) f (end_for n true w l)
    (end_for n true w (looked_at (is_end true n w) l))
looked-end n w l f h q = grind arith

learned-knows : (c : CoreState) (n e d : ℕ) → n < length c.nodes
    → knows d (node_at (learned c n e) n).seen ≡ (knows d (node_at c n).seen || eqb e d)
learned-knows c n e d i = grind (arith, get_or-set_same, map-append, has-last, cases_eq e d)

known-else : (k : Bool) (d e : ℕ) → d ≢ e → (k || eqb e d) ≡ k
known-else k d e ne = grind (arith, ne_eqb e d (λ y. ne (sym y)))

no-wire : (x : Option Wire) → is_none x ≡ true → x ≡ None
no-wire x h = grind arith

-- ---- on boards

module _ (b : Board) (n : ℕ) (h : Holds b) (here : n < length b.core.nodes) where
  abbrev known : ℕ → Bool
  known d = knows d (node_at b.core n).seen

  abbrev edge_wire : ℕ → Option Wire
  edge_wire d = (port_at b.core d).wire

  module _ (s : Step) (x : Option Chunk) (g : may b.core n s ≡ true)
      (after : Holds (board_after b n s x)) where
    abbrev c : Board
    c = board_after b n s x

    -- a step that learns no edge leaves each as it is, but for its lane
    plain-end : may_learn s ≡ false → (d : ℕ)
        → end_of_view (node_view c n) d ≡ end_for n (known d) (edge_wire d) (lane_at c d)
    plain-end p d = let end = view-end c n d after in let wire = wires-kept b.core n s g p d in
        let state = state-after b n h here s g in
        let edges = edges-after (node_view b n) s (answer b.core n s) p in
        grind (arith, end, wire, state, edges)

    same-end : may_learn s ≡ false → (d : ℕ) → lane_at c d ≡ lane_at b d
        → end_of_view (node_view c n) d ≡ end_of_view (node_view b n) d
    same-end p d q = grind (arith, plain-end p d, q, view-end b n d h)

    -- the lane of the edge e changes
    lane-end : may_learn s ≡ false → (e : ℕ) (l : Lane) (y : EdgeEnd) → c.lanes ≡ set b.lanes e l
        → e < length b.core.ports → (d : ℕ)
        → (d ≡ e → end_for n (known e) (edge_wire e) l ≡ y)
        → end_of_view (node_view c n) d ≡ cond (eqb d e) y (end_of_view (node_view b n) d)
    lane-end p e l y lanes i d is = by_index d e _ _ _
        (λ t. ap (end_of_view (node_view c n)) t ∙ (plain-end p e
        ∙ (ap (end_for n (known e) (edge_wire e)) (ap (λ l. get_or l e no_lane) lanes
        ∙ get_or-set_same b.lanes e l no_lane (let k = h.lane_count in omega (arith, k, i)))
        ∙ is t)))
        (λ ne. same-end p d (ap (λ l. get_or l d no_lane) lanes
        ∙ get_or-set_other b.lanes e d l no_lane ne))

    -- the node learns the edge e, which has the wire w from now on
    wired-end : (e : ℕ) (w : Option Wire) (q : CoreState) → c.core ≡ learned q n e
        → c.lanes ≡ b.lanes → q.nodes ≡ b.core.nodes → (port_at q e).wire ≡ w
        → ((d : ℕ) → d ≢ e → (port_at q d).wire ≡ edge_wire d)
        → end_for n (known e || true) w (lane_at b e) ≡ end_wired w (end_view b n e) → (d : ℕ)
        → end_of_view (node_view c n) d ≡ cond (eqb d e)
        (end_wired w (end_of_view (node_view b n) e)) (end_of_view (node_view b n) d)
    wired-end e w q core lanes nodes mine others at d = by_index d e _ _ _
        (λ t. let end = stepped e in let own = eq-eqb e e refl in
        grind (arith, t, end, own, mine, at, view-end b n e h))
        (λ ne. let end = stepped d in let else = known-else (known d) d e ne in
        grind (arith, end, else, others d ne, view-end b n d h))
      where
        stepped : (d : ℕ) → end_of_view (node_view c n) d
            ≡ end_for n (known d || eqb e d) (port_at q d).wire (lane_at b d)
        stepped d = let end = view-end c n d after in let ports = learned-ports q n e in
            let learns = learned-knows q n e d (subst (λ l. n < length l) (sym nodes) here) in
            grind (arith, end, learns, ports, core, lanes, nodes)

    -- nothing changes
    still-core : (o : Bool) (e : ℕ) (y : EdgeEnd) → o ≡ false → c.core ≡ b.core → c.lanes ≡ b.lanes
        → (d : ℕ) → end_of_view (node_view c n) d
        ≡ cond (o && eqb d e) y (end_of_view (node_view b n) d)
    still-core o e y q core lanes d =
        grind (arith, view-end b n d h, view-end c n d after, q, core, lanes)

  -- each edge after a step, but one that was looked at
  ends-after : (s : Step) (x : Option Chunk) → may b.core n s ≡ true
      → Holds (board_after b n s x) → (d : ℕ) → looks_at d s ≡ false
      → (is_at d s ≡ true → gives_back (node_view b n) s ≡ true)
      → end_of_view (node_view (board_after b n s x) n) d
      ≡ end_after (node_view b n) s x (answer b.core n s) d
  ends-after (step.Look e) x g after d away back = same-end (step.Look e) x g after refl d
      (get_or-set_other b.lanes e d _ no_lane (λ t. both_ways _ away (eq-eqb d e t)))
  ends-after (step.Push e k) x g after d away back = let p = act-parts (Push k) b.core n e g in
      let i = (holds-in b.core n e p.0).1 in let was = view-end b n e h in
      let lone = lone-end n b.core.sizes.nodes (edge_wire e) (h.laws.edges.each e i).wired.sound in
      let end = pushed-end n (known e) (edge_wire e) (lane_at b e) x p.1 (lone p.1) in
      lane-end (step.Push e k) x g after refl e _ _ refl i d (λ t. grind (arith, end, was))
  ends-after (step.Pull e) x g after d away back = let p = act-parts Pull b.core n e g in
      let end = pulled-end n (known e) (edge_wire e) (lane_at b e) p.1 in
      let was = view-end b n e h in
      lane-end (step.Pull e) x g after refl e _ _ refl (holds-in b.core n e p.0).1 d
      (λ t. grind (arith, end, was, back, t))
  ends-after (step.Wire e w) x g after d away back = elim (cases_Bool (is_none (edge_wire e))) [
    | inl q ↦ let none = no-wire (edge_wire e) q in let bare = (h.lanes e).bare none in
        let i : e < length b.core.ports = grind arith in
        let is = wired-end (step.Wire e w) x g after e (Some w) (wiring b.core e w)
        (grind (arith, q)) refl refl (grind (arith, i, get_or-set_same))
        (λ d ne. grind (arith, ne, get_or-set_other)) (grind (arith, bare, none)) d in
        grind (arith, is, q)
    | inr q ↦ still-core (step.Wire e w) x g after (is_none (edge_wire e)) e _ q
        (ap (λ o. cond o (learned (wiring b.core e w) n e) b.core) q) refl d
  ]
  ends-after (step.Wired e) x g after d away back = elim (cases_Bool (names n (edge_wire e))) [
    | inl q ↦ let is = wired-end (step.Wired e) x g after e (edge_wire e) b.core (grind (arith, q))
        refl refl refl (λ _ _. refl) (grind (arith, q)) d in grind (arith, is, q)
    | inr q ↦ still-core (step.Wired e) x g after (names n (edge_wire e)) e _ q
        (ap (λ o. cond o (learned b.core n e) b.core) q) refl d
  ]
  ends-after s x g after d away back = same-end s x g after refl d refl

  staged : (g : Stage) → get_or (set b.stages n g) n Begun ≡ g
  staged g = get_or-set_same b.stages n g Begun (let k = h.stage_count in omega (arith, k, here))

  stage-after : (s : Step) (x : Option Chunk)
      → stage_at (board_after b n s x) n ≡ stage_after (stage_at b n) s
  stage-after step.Begin x = staged Begun
  stage-after step.Over x = staged Over
  stage-after step.Birth x = staged Born
  stage-after s x = refl

-- ---- slots

-- a slot is out exactly where the view has its turn
slot-turn : (x : NodeView) (l : Slots) (d : ℕ) → HandHolds x l
    → is_some (slot_in d l) ≡ is_some (end_of_view x d).turn
slot-turn x l d h = sym (has-slot d l) ∙ h.turns d

slot-same : (old new turn : Option (Option Chunk)) → is_some new ≡ is_some old
    → ((v : Option Chunk) → new ≡ Some v → (old ≡ Some v) ⊎ ((old ≡ None) × (turn ≡ Some v)))
    → new ≡ old
slot-same old None turn h k = grind (arith, h)
slot-same old (Some v) turn h k = grind (arith, h, k v refl)

slot-taken : (old new turn : Option (Option Chunk)) → is_some new ≡ is_some turn
    → (is_some old ≡ true → is_some turn ≡ true)
    → ((v : Option Chunk) → new ≡ Some v → (old ≡ Some v) ⊎ ((old ≡ None) × (turn ≡ Some v)))
    → new ≡ slot_looked old turn
slot-taken old None turn h t k = grind (arith, h, t)
slot-taken old (Some u) turn h t k = grind (arith, h, t, k u refl)

-- ---- seats

-- of an edge at which the step isn't, the flags and the end stay
away-at : (d e : ℕ) → eqb d e ≡ false → d ≢ e
away-at d e q t = both_ways _ q (eq-eqb d e t)

learned-sight : (x : NodeView) (e d : ℕ)
    → flags_at d (state_learned e x.state).seen ≡ flags_at d x.state.seen
learned-sight x e d = grind (arith, flags-last e d x.state.seen)

sight-still : (x : NodeView) (s : Step) (a : StepAnswer) (d : ℕ) → is_at d s ≡ false
    → flags_at d (core_state_after x s a).seen ≡ flags_at d x.state.seen
sight-still x (step.Look e) (flags f) d q = seeing-other e d f x.state.seen (away-at d e q)
sight-still x s a d q = grind (arith, q, seeing-other, away-at, learned-sight)

module _ {t : Identity} {old new : NodeSeat} {s : Step} {x : Option Chunk} {a : StepAnswer}
    (o : IsSeatOf t old) (m : MakesStep t old new s x a) where
  pub number-made : (view new).number ≡ (view old).number
  number-made = sym (ap (λ (v : NodeView). v.number) m.now)

  pub stage-made : (view new).stage ≡ stage_after (view old).stage s
  stage-made = let is = stage-after m.before (view old).number m.holds (node-inside o m) s x in
      let was = m.was in let now = m.now in grind (arith, is, was, now)

  pub edges-made : may_learn s ≡ false
      → edges_of (view new).state.seen ≡ edges_of (view old).state.seen
  edges-made p = ap (λ z. edges_of z.seen) (state-made o m) ∙ edges-after (view old) s a p

  pub ends-made : (d : ℕ) → looks_at d s ≡ false
      → (is_at d s ≡ true → gives_back (view old) s ≡ true)
      → end_of_view (view new) d ≡ end_after (view old) s x a d
  ends-made d away back = let was = m.was in let now = m.now in let says = m.says in
      let is = ends-after m.before _ m.holds (node-inside o m) s x m.may m.kept d away in
      grind (arith, is, was, now, says, back)

  -- a slot is as it was where its end is, and at home where its end hasn't the turn
  pub slot-kept : (d : ℕ) → end_of_view (view new) d ≡ end_of_view (view old) d
      → slot_of new d ≡ slot_of old d
  slot-kept d q = let now = slot-turn (view new) (slots new) d m.seat.hand in
      let was = slot-turn (view old) (slots old) d o.hand in
      grind (arith, slot-same, now, was, q, m.carried d)

  pub slot-home : (d : ℕ) → (end_of_view (view new) d).turn ≡ None → slot_of new d ≡ None
  slot-home d q = no-slot d (slots new) (m.seat.hand.turns d ∙ ap is_some q)

  -- an edge at which the step isn't
  pub same-made : (d : ℕ) → is_at d s ≡ false → IsSameAt old new d
  same-made d q = record {
    flags = ap (λ z. flags_at d z.seen) (state-made o m) ∙ sight-still (view old) s a d q;
    end = same;
    slot = slot-kept d same;
  }
    where
      same : end_of_view (view new) d ≡ end_of_view (view old) d
      same = ends-made d (grind (arith, q)) (λ t. absurd (both_ways _ q t)) ∙ grind (arith, q)

abbrev flags_in : StepAnswer → Flags
flags_in (flags f) = f
flags_in a = no_flags

module _ {t : Identity} {old new : NodeSeat} {e : ℕ} {x : Option Chunk} {f : Flags}
    (o : IsSeatOf t old) (m : MakesStep t old new (step.Look e) x (flags f)) where
  abbrev n : ℕ
  n = (view old).number

  abbrev b : Board
  b = m.before

  abbrev w : Option Wire
  w = (port_at b.core e).wire

  -- the edge that was looked at
  pub look-made : LooksAt (is_end true n (end_of_view (view old) e).wire) f
      (end_of_view (view old) e) (end_of_view (view new) e)
  look-made = let p = port_at b.core e in
      let full = lane-full p (lane_at b e) edge.content (m.holds.lanes e) in
      let says = ap (λ (g : Flags). g.has_data) (sym (ap flags_in m.says)) ∙ sym full in
      let looks = looked-end n w (lane_at b e) f (edge.learned n seen) says in
      grind (arith, looks, before, wired, now)
    where
      inside : e < length b.core.ports
      inside = (holds-in b.core n e m.may).1

      edge : EdgeHolds b.core.sizes b.core.nodes e (port_at b.core e)
      edge = m.holds.laws.edges.each e inside

      seen : knows e (node_at b.core n).seen ≡ true
      seen = let g = m.may in grind arith

      before : end_of_view (view old) e ≡ end_for n true w (lane_at b e)
      before = let end = view-end b n e m.holds in grind (arith, m.was, end, seen)

      wired : (end_for n true w (lane_at b e)).wire ≡ w
      wired = grind (arith, edge.learned n seen)

      now : end_of_view (view new) e
          ≡ end_for n true w (looked_at (is_end true n w) (lane_at b e))
      now = let i = inside in let k = m.holds.lane_count in let lane = get_or-set_same b.lanes e in
          let end = plain-end b n m.holds (node-inside o m) (step.Look e) x m.may m.kept refl e in
          grind (arith, m.now, end, seen, lane, i, k)

  pub look-slot : slot_of new e ≡ slot_looked (slot_of old e) (end_of_view (view new) e).turn
  look-slot = let now = slot-turn (view new) (slots new) e m.seat.hand in
      let was = slot-turn (view old) (slots old) e o.hand in
      grind (arith, slot-taken, now, was, look-made.kept, m.carried e)
