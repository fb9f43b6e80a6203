-- What a seat knows after a step follows from what it knew before and what the step answered.
use Rattle.exec_table.proofs.Imports.{Act, StepAnswer, answer, Board, Bool, Chunk, Close, CoreState, Identity, Finish, Holds, IsSeatOf, List, Lane, MakesStep, NodeSeat, NodeState, NodeView, Option, Pull, Push, Some, Step, Unwant, Want, [], acted, adding, after, ap, arith, bit_at_end, board_after, changed, cond, end-of, end_for, end_of_view, Wire, filter, fits_end, flags_at, get_or, get_or-set_same, has, is_end, is_none, knows, learned, learning, left, length, length-set, marked_by, may, may_act, names, no_node, no_wire, not, node_at, node_view, or_right, peer_in, port_at, refl, seeing, set, spent, sym, taken, telling, tells, with_bit, true, view, wiring, ℕ, ◌<◌, ◌∙◌, ◌∷◌, ◌≡◌}
use Rattle.core_laws.specs.declared.types.Step.TheVariants as step
use Rattle.exec_table.specs.Known.{core_state_after, price, state_acted, state_learned, state_taken}
use Rattle.exec_table.proofs.Readiness.{view-end}
use Rattle.exec_table.proofs.Seating.{known-wire}
use Rattle.exec_table.proofs.Stepping.{act-parts, holds-in}

-- a view doesn't show the node's word
abbrev bare : NodeState → NodeState
bare nd = record nd { word = 0 }

filter-same : (p q : ℕ → Bool) (l : List ℕ) → ((e : ℕ) → has e l ≡ true → p e ≡ q e)
    → filter p l ≡ filter q l
filter-same p q [] h = refl
filter-same p q (x ∷ xs) h =
    grind (arith, h x, filter-same p q xs (λ e k. h e (or_right _ _ k)))

module _ (b : Board) (n : ℕ) (h : Holds b) (here : n < length b.core.nodes) where
  abbrev c : CoreState
  c = b.core

  abbrev nd : NodeState
  nd = node_at c n

  own : (md : NodeState) → get_or (set c.nodes n md) n no_node ≡ md
  own md = get_or-set_same c.nodes n md no_node here

  -- what the word says of who is to be told, the sight says too
  acts : (a : Act) (e : ℕ) → tells a (port_at c e).flags ≡ tells a (flags_at e nd.seen)
      → bare (node_at (acted a c n e) n) ≡ state_acted a (node_view b n) e
  acts a e told = ap bare (own _) ∙ ap (λ t. bare (record nd {
    seen = seeing e (changed a (flags_at e nd.seen)) nd.seen;
    owes = cond t (adding e nd.owes) nd.owes;
  })) told

  wants : (e : ℕ) → may_act Want c n e ≡ true
      → tells Want (port_at c e).flags ≡ tells Want (flags_at e nd.seen)
  wants e g = let parts = act-parts Want c n e g in
      let x = end-of true n (port_at c e).wire parts.1 in
      let sees = (h.laws.edges.each e (holds-in c n e parts.0).1).sees true x.wire x.is in
      ap not (sym sees.needed ∙ ap (λ m. (flags_at e (node_at c m).seen).needed) x.end)

  takes : (w k : ℕ) → w ≡ nd.word → bare (taken c n k) ≡ state_taken (node_view b n) w k
  takes w k is = grind (arith, own (taken c n k), filter-same, known-wire b n, is)

  -- the edge is learned where it may be
  wires : (e : ℕ) (d : CoreState) (t : Bool) → d.nodes ≡ c.nodes
      → bare (node_at (cond t (learned d n e) c) n) ≡ cond t (state_learned e (bare nd)) (bare nd)
  wires e d t q = grind (arith, q, own (learning e nd))

  priced : (w : ℕ) → spent w ≡ price (marked_by w)
  priced w = grind arith

  pub state-after : (s : Step) → may c n s ≡ true
      → bare (node_at (after c n s) n) ≡ core_state_after (node_view b n) s (answer c n s)
  state-after (step.Look e) g = ap bare (own _)
  state-after (step.Want e) g = acts Want e (wants e g)
  state-after (step.Unwant e) g = acts Unwant e refl
  state-after (step.Push e k) g = acts (Push k) e refl
  state-after (step.Pull e) g = acts Pull e refl
  state-after (step.Finish e) g = acts Finish e refl
  state-after (step.ClosePort e) g = acts Close e refl
  state-after (step.Mark e) g = let m = peer_in n (port_at c e).wire in
      let md = with_bit (bit_at_end m (port_at c e).wire) (node_at c m) in
      ap bare (get_or-set_same (set c.nodes m md) n _ no_node
      (let l = length-set c.nodes m md in omega (arith, l, here)))
      ∙ ap (λ k. bare (telling e k nd)) (priced (node_at c m).word)
  state-after step.Begin g = ap bare (own _) ∙ takes nd.word (spent nd.word) refl
  state-after step.Again g = ap bare (own _) ∙ takes nd.word 0 refl
  state-after step.Rest g = grind (arith, own (left 0 nd))
  state-after step.Over g = ap bare (own _)
  state-after step.TokenIn g = ap bare (own _)
  state-after step.TokenOut g = ap bare (own _)
  state-after (step.Wire e w) g = wires e (wiring c e w) (is_none (port_at c e).wire) refl
  state-after (step.Wired e) g = wires e c (names n (port_at c e).wire) refl
  state-after step.Birth g = ap bare (own _)
  state-after s g = refl

-- an end that has the turn of a slot has what it may take
end-fits : (n : ℕ) (k : Bool) (w : Option Wire) (l : Lane) (v : Option Chunk) → names n w ≡ true
    → (end_for n k w l).turn ≡ Some v → fits_end (is_end true n w) v ≡ true
end-fits n k w l v h q = grind arith

module _ {t : Identity} {old new : NodeSeat} {s : Step} {x : Option Chunk} {a : StepAnswer}
    (o : IsSeatOf t old) (m : MakesStep t old new s x a) where
  abbrev n : ℕ
  n = (view old).number

  -- the node is one of the board
  pub node-inside : n < length m.before.core.nodes
  node-inside = let i = o.inside in let l = m.holds.laws.nodes.number in
      let z = ap (λ (v : NodeView). v.sizes.nodes) m.was ∙ ap (λ z. z.nodes) o.sizes in
      omega (arith, i, z, l)

  pub state-made : (view new).state ≡ core_state_after (view old) s a
  state-made = sym (ap (λ (v : NodeView). v.state) m.now)
      ∙ (state-after m.before n m.holds node-inside s m.may
      ∙ (λ i. core_state_after (m.was i) s (m.says i)))

  -- the wire of an edge from the start, which the node has learned
  pub wire-made : (e : ℕ) → knows e (view new).state.seen ≡ true → e < length t.sizes.wires
      → (end_of_view (view new) e).wire ≡ Some (get_or t.sizes.wires e no_wire)
  wire-made e k i = let d = board_after m.before n s x in let edges = m.kept.laws.edges in
      let same = m.seat.sizes in let now = m.now in let count = edges.count in
      let edge = edges.each e in let wire = known-wire d n e m.kept in
      grind (arith, same, now, count, edge, wire, k)

  -- where the seat has the turn of the slot, it has what its end may take
  pub turn-fits : (e : ℕ) → knows e (view new).state.seen ≡ true → (v : Option Chunk)
      → (end_of_view (view new) e).turn ≡ Some v
      → fits_end (is_end true (view new).number (end_of_view (view new) e).wire) v ≡ true
  turn-fits e k v q = let d = board_after m.before n s x in let edges = m.kept.laws.edges in
      let now = m.now in let wire = known-wire d n e m.kept in let edge = edges.each e in
      let there = edges.known n e in let end = view-end d n e m.kept in
      grind (arith, now, wire, edge, there, end, end-fits, k, q)
