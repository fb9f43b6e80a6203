-- The ports as the seat knows them, and what a step at one of them, or at none, leaves.
use Rattle.node_ports.proofs.Imports.{Bool, EdgeEnd, Input, InputAllows, InputPort, IsDifference, IsEnd, IsSound, List, NodeView, None, Option, Output, OutputAllows, Picture, Port, PortKnown, PortsHold, PortsPicture, HasPortOf, SameLists, SamePorts, Some, Table, Updated, Wire, [], ap, append-nil, arith, cases_eq, cases_lt, chunk_after, chunks_on, edge_of, edges_of, end_of, end_of_view, eq-eqb, false, flags_at, get_or, get_or-map, get_or_past, has, holds_data, in_count, inl, input_after, input_at, input_seen, inr, is_end, is_own_port, is_some, is_updated_port, knows, length, length-map, lifted_of, map, no_input, number_at, out_count, output_after, output_at, output_seen, over_flags, port_chunk, port_edge, port_flags, pulled_by, pushed_by, pushes_to, refl, shown, slot_in, subst, sym, taken_out, true, ℕ, ◌++◌, ◌<◌, ◌∙◌, ◌≡◌, ◌≢◌, ◌≤◌, ◌⊎◌}

-- ---- ports

same-port : (p q : Port) → (p ≡ q) ⊎ (p ≢ q)
same-port (Input i) (Input j) =
    elim (cases_eq i j) [ inl e ↦ inl (ap Input e) | inr ne ↦ inr (λ h. ne (cc)) ]
same-port (Input i) (Output o) = inr (λ h. cc)
same-port (Output o) (Input i) = inr (λ h. cc)
same-port (Output o) (Output k) =
    elim (cases_eq o k) [ inl e ↦ inl (ap Output e) | inr ne ↦ inr (λ h. ne (cc)) ]

at-or-not : (at : Option Port) (q : Port) → (at ≡ Some q) ⊎ (at ≢ Some q)
at-or-not None q = inr (λ e. cc)
at-or-not (Some p) q =
    elim (same-port p q) [ inl e ↦ inl (ap Some e) | inr ne ↦ inr (λ h. ne (cc)) ]

-- a port of a picture, an output as an input without a chunk
abbrev pub sight : Picture → Port → InputPort
sight v p = record { flags = port_flags v p; chunk = port_chunk v p }

abbrev pub is_input : Port → Bool
is_input (Input i) = true
is_input (Output o) = false

pub end-there : (w : Wire) (n : ℕ) (p : Port) → IsEnd w n p → end_of (is_input p) w ≡ n
end-there w n (Input i) h = h.0
end-there w n (Output o) h = h.0

-- the node is that end of the wire
pub end-side : (w : Wire) (n : ℕ) (p : Port) → IsEnd w n p
    → is_end (is_input p) n (Some w) ≡ true
end-side w n p h = eq-eqb (end_of (is_input p) w) n (end-there w n p h)

-- the chunk that was lifted out of the slot of the port's edge
abbrev pub lifted_at : PortsPicture → Port → Option Table
lifted_at c (Input i) = lifted_of (slot_in (edge_of c (Input i)) c.slots)
    (end_of_view c.node (edge_of c (Input i))).turn
lifted_at c (Output o) = None

-- the port by its edge, as the seat knows it
abbrev pub seen_at : PortsPicture → Port → InputPort
seen_at c p = record { flags = flags_at (edge_of c p) c.node.state.seen; chunk = lifted_at c p }

abbrev pub edges_at : PortsPicture → Port → List ℕ
edges_at c (Input i) = c.inputs
edges_at c (Output o) = c.outputs

abbrev pub place : Port → ℕ
place (Input i) = i
place (Output o) = o

-- the chunks that went by on the port's edge
abbrev pub port_chunks : PortsPicture → Port → List Table
port_chunks c p = chunks_on c.node (edges_at c p) (place p)

-- with those that wait
abbrev pub passed : PortsPicture → Port → List Table
passed c (Input i) = pulled_by c i
passed c (Output o) = pushed_by c o

module _ (c : PortsPicture) where
  pub shown-input : (i : ℕ) → i < length c.inputs
      → input_at (shown c) i ≡ input_seen c.node c.slots (edge_of c (Input i))
  unfolding input_at
  shown-input i lt = get_or-map (input_seen c.node c.slots) c.inputs i 0 no_input lt

  pub shown-output : (o : ℕ) → o < length c.outputs
      → output_at (shown c) o ≡ output_seen c.node (edge_of c (Output o))
  unfolding output_at
  shown-output o lt = get_or-map (output_seen c.node) c.outputs o 0 over_flags lt

  pub shown-at : (p : Port) → is_own_port c p → sight (shown c) p ≡ seen_at c p
  shown-at (Input i) lt = shown-input i lt
  shown-at (Output o) lt = ap (λ f. record { flags = f; chunk = None }) (shown-output o lt)

  -- past the ports nothing shows, and nothing went by
  pub past-sight : (p : Port) → length (edges_at c p) ≤ place p
      → sight (shown c) p ≡ sight (record { inputs = []; outputs = []; actions = [] }) p
  unfolding input_at output_at
  past-sight (Input i) le = get_or_past (map (input_seen c.node c.slots) c.inputs) i no_input
      (let l = length-map c.inputs (input_seen c.node c.slots) in omega (arith, l, le))
  past-sight (Output o) le = ap (λ f. record { flags = f; chunk = None })
      (get_or_past (map (output_seen c.node) c.outputs) o over_flags
      (let l = length-map c.outputs (output_seen c.node) in omega (arith, l, le)))

  pub past-chunks : (p : Port) → length (edges_at c p) ≤ place p → port_chunks c p ≡ []
  past-chunks p le = get_or_past (map (λ e. (end_of_view c.node e).chunks) (edges_at c p)) (place p)
      [] (let l = length-map (edges_at c p) (λ e. (end_of_view c.node e).chunks) in
      omega (arith, l, le))

  pub own-or-past : (p : Port) → is_own_port c p ⊎ (length (edges_at c p) ≤ place p)
  own-or-past (Input i) = cases_lt i (length c.inputs)
  own-or-past (Output o) = cases_lt o (length c.outputs)

pub chunks-on-edge : (x : NodeView) (edges : List ℕ) (k : ℕ) → k < length edges
    → chunks_on x edges k ≡ (end_of_view x (number_at edges k)).chunks
chunks-on-edge x edges k lt = get_or-map (λ e. (end_of_view x e).chunks) edges k 0 [] lt

pub port-chunks : (c : PortsPicture) (p : Port) → is_own_port c p
    → port_chunks c p ≡ (end_of_view c.node (edge_of c p)).chunks
port-chunks c (Input i) lt = chunks-on-edge c.node c.inputs i lt
port-chunks c (Output o) lt = chunks-on-edge c.node c.outputs o lt

-- what was pulled from the port, or pushed to it, and waits to be carried out
abbrev pub waiting : PortsPicture → Port → List Table
waiting c (Input i) = taken_out (lifted_at c (Input i)) (input_at c.view i).chunk
waiting c (Output o) = pushes_to o c.view.actions

pub passed-at : (c : PortsPicture) (p : Port) → is_own_port c p
    → passed c p ≡ (end_of_view c.node (edge_of c p)).chunks ++ waiting c p
passed-at c (Input i) lt = λ j. port-chunks c (Input i) lt j
    ++ taken_out (shown-input c i lt j).chunk (input_at c.view i).chunk
passed-at c (Output o) lt = λ j. port-chunks c (Output o) lt j ++ pushes_to o c.view.actions

-- two ports have two edges
pub apart-edges : (c : PortsPicture) → PortsHold c → (p q : Port) → is_own_port c p
    → is_own_port c q → Some p ≢ Some q → edge_of c q ≢ edge_of c p
apart-edges c h p q hp hq ne same =
    let a = h.known p hp in let b = h.known q hq in
    let w : Some a.wire ≡ Some b.wire = sym a.is
    ∙ (ap (λ e. (end_of_view c.node e).wire) (sym same) ∙ b.is) in
    let v : a.wire ≡ b.wire = cc in
    ne (ap Some (one-port b.wire c.node.number p q
    (subst (λ w. IsEnd w c.node.number p) v a.at_port) b.at_port b.apart))
  where
    one-port : (w : Wire) (n : ℕ) (p q : Port) → IsEnd w n p → IsEnd w n q → w.from ≢ w.to → p ≡ q
    one-port w n (Input i) (Input j) a b ne = ap Input (sym a.1 ∙ b.1)
    one-port w n (Input i) (Output o) a b ne = absurd (ne (b.0 ∙ sym a.0))
    one-port w n (Output o) (Input i) a b ne = absurd (ne (a.0 ∙ sym b.0))
    one-port w n (Output o) (Output k) a b ne = ap Output (sym a.1 ∙ b.1)

-- ---- a view, against the port as it was

-- the actions of the view make of the port what the view shows
abbrev pub Differs : Port → InputPort → Picture → Type 0
Differs (Input i) x v = ((input_at v i).flags ≡ input_after i v.actions x.flags)
    × ((input_at v i).chunk ≡ chunk_after i v.actions x.chunk) × InputAllows i v.actions x.flags
Differs (Output o) x v = (output_at v o ≡ output_after o v.actions x.flags)
    × OutputAllows o v.actions x.flags

pub differs-at : (s v : Picture) → IsDifference s v → (p : Port) → Differs p (sight s p) v
differs-at s v d (Input i) = (d.input_flags i, d.input_chunks i, d.inputs_allow i)
differs-at s v d (Output o) = (d.output_flags o, d.outputs_allow o)

difference-by : (s v : Picture) → ((p : Port) → Differs p (sight s p) v) → IsDifference s v
difference-by s v d = record {
  input_flags = λ i. (d (Input i)).0;
  input_chunks = λ i. (d (Input i)).1;
  output_flags = λ o. (d (Output o)).0;
  inputs_allow = λ i. (d (Input i)).2;
  outputs_allow = λ o. (d (Output o)).1;
}

-- where no action waits the view shows the ports as the seat knows them
pub quiet-sight : (c : PortsPicture) → PortsHold c → c.view.actions ≡ [] → (p : Port)
    → sight c.view p ≡ sight (shown c) p
quiet-sight c h q (Input i) = λ j. record {
  flags = (h.difference.input_flags i ∙ ap (λ l. input_after i l (input_at (shown c) i).flags) q) j;
  chunk = (h.difference.input_chunks i ∙ ap (λ l. chunk_after i l (input_at (shown c) i).chunk) q)
      j;
}
quiet-sight c h q (Output o) = λ j. record {
  flags = (h.difference.output_flags o ∙ ap (λ l. output_after o l (output_at (shown c) o)) q) j;
  chunk = None;
}

pub quiet-seen : (c : PortsPicture) → PortsHold c → c.view.actions ≡ [] → (p : Port)
    → is_own_port c p → sight c.view p ≡ seen_at c p
quiet-seen c h q p own = quiet-sight c h q p ∙ shown-at c p own

-- nothing was taken out of a port that has what it had
pub taken-itself : (x : Option Table) → taken_out x x ≡ []
taken-itself None = refl
taken-itself (Some c) = refl

-- where no action waits nothing does
quiet-waiting : (c : PortsPicture) (p : Port) → c.view.actions ≡ [] → sight c.view p ≡ seen_at c p
    → waiting c p ≡ []
unfolding pushes_to
quiet-waiting c (Input i) q is =
    ap (λ (x : InputPort). taken_out (lifted_at c (Input i)) x.chunk) is
    ∙ taken-itself (lifted_at c (Input i))
quiet-waiting c (Output o) q is = ap (pushes_to o) q

-- so what passed is what went by on the edge
pub quiet-passed : (c : PortsPicture) (p : Port) → is_own_port c p → c.view.actions ≡ []
    → sight c.view p ≡ seen_at c p → passed c p ≡ (end_of_view c.node (edge_of c p)).chunks
quiet-passed c p own q is = passed-at c p own
    ∙ (ap (λ l. (end_of_view c.node (edge_of c p)).chunks ++ l) (quiet-waiting c p q is)
    ∙ append-nil (end_of_view c.node (edge_of c p)).chunks)

pub differs-quiet : (p : Port) (x : InputPort) (v : Picture) → v.actions ≡ [] → sight v p ≡ x
    → Differs p x v
differs-quiet (Input i) x v q is = (
  ap (λ (y : InputPort). y.flags) is ∙ ap (λ l. input_after i l x.flags) (sym q),
  ap (λ (y : InputPort). y.chunk) is ∙ ap (λ l. chunk_after i l x.chunk) (sym q),
  subst (λ l. InputAllows i l x.flags) (sym q) tt,
)
differs-quiet (Output o) x v q is = (
  ap (λ (y : InputPort). y.flags) is ∙ ap (λ l. output_after o l x.flags) (sym q),
  subst (λ l. OutputAllows o l x.flags) (sym q) tt,
)

-- ---- a step at one port, or at none

-- of an edge the seat knows what it knew, and its slot is as it was
pub record SameEdge (c d : PortsPicture) (e : ℕ) : Type 0 where
  pub flags : flags_at e d.node.state.seen ≡ flags_at e c.node.state.seen
  pub end : end_of_view d.node e ≡ end_of_view c.node e
  pub slot : slot_in e d.slots ≡ slot_in e c.slots

-- what a port keeps ready: an input what the shared port says of its need, and where it is open and
-- has data its chunk; an output that was asked for and is empty its slot
abbrev pub IsPortReady : PortsPicture → Port → InputPort → Type 0
IsPortReady c (Input i) x = (get_or c.needed i false ≡ x.flags.needed)
    × (holds_data x.flags ≡ true → is_some x.chunk ≡ true)
IsPortReady c (Output o) x = x.flags.needed ≡ true → x.flags.has_data ≡ false
    → slot_in (edge_of c (Output o)) c.slots ≡ Some None

-- what waits at the port in the view
abbrev pub Waits : Port → Picture → Picture → Type 0
Waits (Input i) v w = (input_at w i).chunk ≡ (input_at v i).chunk
Waits (Output o) v w = pushes_to o w.actions ≡ pushes_to o v.actions

-- the port at which the step was
pub record Here (c d : PortsPicture) (p : Port) : Type 0 where
  pub own : is_own_port c p
  pub wire : (end_of_view d.node (edge_of c p)).wire ≡ (end_of_view c.node (edge_of c p)).wire
  pub differs : Differs p (sight (shown d) p) d.view
  pub ready : IsPortReady d p (sight (shown d) p)
  pub passes : passed d p ≡ passed c p

-- the edges of the list are learned ones, each the edge of an updated port
pub record AreUpdated (c : PortsPicture) (u : Updated) (edges : List ℕ) : Type 0 where
  pub known : (e : ℕ) → has e edges ≡ true → knows e c.node.state.seen ≡ true
  pub named : (p : Port) → is_own_port c p → has (edge_of c p) edges ≡ true
      → is_updated_port p u ≡ true

-- fewer unlooked edges are so too
pub still-updated : (c : PortsPicture) → PortsHold c → (edges : List ℕ)
    → ((e : ℕ) → has e edges ≡ true → has e c.node.state.unlooked ≡ true)
    → AreUpdated c c.updated edges
still-updated c h edges fewer = record {
  known = λ e q. h.unlooked e (fewer e q);
  named = λ p own q. h.updated p own (fewer (edge_of c p) q);
}

-- Of all other edges the seat knows what it knew, and the view explains what another port shows by
-- the port as it was.
pub record MovesAt (c d : PortsPicture) (at : Option Port) : Type 0 where
  pub ports : SamePorts c d
  pub edges : edges_of d.node.state.seen ≡ edges_of c.node.state.seen
  pub unlooked : AreUpdated c d.updated d.node.state.unlooked
  pub others : (e : ℕ) → ((p : Port) → at ≡ Some p → e ≢ edge_of c p) → SameEdge c d e
  pub ins : in_count d.view ≡ in_count c.view
  pub outs : out_count d.view ≡ out_count c.view
  pub sound : IsSound d.view
  pub needed_len : length d.needed ≡ length c.needed
  pub needs : (i : ℕ) → at ≢ Some (Input i) → get_or d.needed i false ≡ get_or c.needed i false
  pub differs : (q : Port) → at ≢ Some q → Differs q (sight (shown c) q) d.view
  pub waits : (q : Port) → at ≢ Some q → Waits q c.view d.view
  pub here : (q : Port) → at ≡ Some q → Here c d q

module _ (c d : PortsPicture) (at : Option Port) (h : PortsHold c) (m : MovesAt c d at) where
  same-edge : (q : Port) → edge_of d q ≡ edge_of c q
  same-edge q = λ j. port_edge (m.ports.inputs j) (m.ports.outputs j) q

  same-edges : (q : Port) → edges_at d q ≡ edges_at c q
  same-edges (Input i) = m.ports.inputs
  same-edges (Output o) = m.ports.outputs

  new-own : (q : Port) → is_own_port c q → is_own_port d q
  new-own (Input i) lt = subst (λ l. i < length l) (sym m.ports.inputs) lt
  new-own (Output o) lt = subst (λ l. o < length l) (sym m.ports.outputs) lt

  old-own : (q : Port) → is_own_port d q → is_own_port c q
  old-own (Input i) lt = subst (λ l. i < length l) m.ports.inputs lt
  old-own (Output o) lt = subst (λ l. o < length l) m.ports.outputs lt

  same-known : (e : ℕ) → knows e d.node.state.seen ≡ knows e c.node.state.seen
  same-known e = ap (has e) m.edges

  other-port : (q : Port) → is_own_port c q → at ≢ Some q → SameEdge c d (edge_of c q)
  other-port q own ne = m.others (edge_of c q) (λ p is. apart-edges c h p q (m.here p is).own own
      (λ same. ne (is ∙ same)))

  unlearned : (e : ℕ) → knows e c.node.state.seen ≡ false → SameEdge c d e
  unlearned e un = m.others e (λ p is same.
      let k = (h.known p (m.here p is).own).known in
      let z : true ≡ false = sym k ∙ (ap (λ f. knows f c.node.state.seen) (sym same) ∙ un) in cc)

  moved-known : (q : Port) → is_own_port d q → PortKnown d q
  moved-known q k = let l = old-own q k in let was = h.known q l in record {
    known = ap (λ e. knows e d.node.state.seen) (same-edge q)
        ∙ (same-known (edge_of c q) ∙ was.known);
    wire = was.wire;
    is = ap (λ e. (end_of_view d.node e).wire) (same-edge q) ∙ (elim (at-or-not at q) [
      | inl e ↦ (m.here q e).wire
      | inr ne ↦ ap (λ (z : EdgeEnd). z.wire) (other-port q l ne).end
    ] ∙ was.is);
    at_port = subst (λ n. IsEnd was.wire n q) (sym m.ports.number) was.at_port;
    apart = was.apart;
    other = (λ j. port_edge (m.ports.sources j) (m.ports.targets j) q) ∙ was.other;
  }

  moved-cover : (e : ℕ) → knows e d.node.state.seen ≡ true → HasPortOf d e
  moved-cover e k = let was = h.cover e (sym (same-known e) ∙ k) in record {
    port = was.port;
    there = new-own was.port was.there;
    is = same-edge was.port ∙ was.is;
  }

  -- another port shows as before, and what went by there is what it was
  seen-same : (q : Port) → SameEdge c d (edge_of c q) → seen_at d q ≡ seen_at c q
  seen-same (Input i) s = ap (input_seen d.node d.slots) (same-edge (Input i)) ∙ same s
    where
      same : {e : ℕ} → SameEdge c d e
          → input_seen d.node d.slots e ≡ input_seen c.node c.slots e
      same s = grind (arith, s.flags, s.end, s.slot)
  seen-same (Output o) s = ap (λ f. record { flags = f; chunk = None })
      (ap (output_seen d.node) (same-edge (Output o)) ∙ s.flags)

  past-too : (q : Port) → length (edges_at c q) ≤ place q → length (edges_at d q) ≤ place q
  past-too q le = subst (λ l. length l ≤ place q) (sym (same-edges q)) le

  sight-elsewhere : (q : Port) → at ≢ Some q → sight (shown d) q ≡ sight (shown c) q
  sight-elsewhere q ne = elim (own-or-past c q) [
    | inl lt ↦ shown-at d q (new-own q lt) ∙ (seen-same q (other-port q lt ne)
        ∙ sym (shown-at c q lt))
    | inr past ↦ past-sight d q (past-too q past) ∙ sym (past-sight c q past)
  ]

  chunks-elsewhere : (q : Port) → at ≢ Some q → port_chunks d q ≡ port_chunks c q
  chunks-elsewhere q ne = elim (own-or-past c q) [
    | inl lt ↦ port-chunks d q (new-own q lt) ∙ (ap (λ e. (end_of_view d.node e).chunks)
        (same-edge q)
        ∙ (ap (λ (z : EdgeEnd). z.chunks) (other-port q lt ne).end ∙ sym (port-chunks c q lt)))
    | inr past ↦ past-chunks d q (past-too q past) ∙ sym (past-chunks c q past)
  ]

  passes-elsewhere : (q : Port) → at ≢ Some q → passed d q ≡ passed c q
  passes-elsewhere (Input i) ne = λ j. chunks-elsewhere (Input i) ne j
      ++ taken_out (sight-elsewhere (Input i) ne j).chunk (m.waits (Input i) ne j)
  passes-elsewhere (Output o) ne = λ j. chunks-elsewhere (Output o) ne j
      ++ m.waits (Output o) ne j

  ready-elsewhere : (q : Port) → is_own_port c q → at ≢ Some q → IsPortReady d q (sight (shown c) q)
  ready-elsewhere (Input i) lt ne = (
    m.needs i ne ∙ (h.needed i lt
        ∙ ap (λ (x : InputPort). x.flags.needed) (sym (shown-input c i lt))),
    h.held i,
  )
  ready-elsewhere (Output o) lt ne = λ n z. ap (λ e. slot_in e d.slots) (same-edge (Output o))
      ∙ ((other-port (Output o) lt ne).slot ∙ h.ready o lt n z)

  -- ---- each port

  all-differ : (q : Port) → Differs q (sight (shown d) q) d.view
  all-differ q = elim (at-or-not at q) [
    | inl e ↦ (m.here q e).differs
    | inr ne ↦ subst (λ x. Differs q x d.view) (sym (sight-elsewhere q ne)) (m.differs q ne)
  ]

  all-ready : (q : Port) → is_own_port c q → IsPortReady d q (sight (shown d) q)
  all-ready q lt = elim (at-or-not at q) [
    | inl e ↦ (m.here q e).ready
    | inr ne ↦ subst (λ x. IsPortReady d q x) (sym (sight-elsewhere q ne)) (ready-elsewhere q lt ne)
  ]

  all-pass : (q : Port) → passed d q ≡ passed c q
  all-pass q = elim (at-or-not at q) [
    | inl e ↦ (m.here q e).passes
    | inr ne ↦ passes-elsewhere q ne
  ]

  all-held : (i : ℕ) → holds_data (input_at (shown d) i).flags ≡ true
      → is_some (input_at (shown d) i).chunk ≡ true
  all-held i = elim (at-or-not at (Input i)) [
    | inl e ↦ (m.here (Input i) e).ready.1
    | inr ne ↦ subst (λ (x : InputPort). holds_data x.flags ≡ true → is_some x.chunk ≡ true)
        (sym (sight-elsewhere (Input i) ne)) (h.held i)
  ]

  pub moved-holds : PortsHold d
  moved-holds = record {
    known = moved-known;
    cover = moved-cover;
    bare = λ e k. let un = sym (same-known e) ∙ k in (unlearned e un).end ∙ h.bare e un;
    unlooked = λ e k. same-known e ∙ m.unlooked.known e k;
    updated = λ q own k. m.unlooked.named q (old-own q own)
        (ap (λ e. has e d.node.state.unlooked) (sym (same-edge q)) ∙ k);
    peers = (
      ap length m.ports.sources ∙ (h.peers.0 ∙ ap length (sym m.ports.inputs)),
      ap length m.ports.targets ∙ (h.peers.1 ∙ ap length (sym m.ports.outputs)),
    );
    ins = m.ins ∙ (h.ins ∙ ap length (sym m.ports.inputs));
    outs = m.outs ∙ (h.outs ∙ ap length (sym m.ports.outputs));
    needed = λ i lt. (all-ready (Input i) (old-own (Input i) lt)).0
        ∙ ap (λ (x : InputPort). x.flags.needed) (shown-input d i lt);
    needed_len = m.needed_len ∙ (h.needed_len ∙ ap length (sym m.ports.inputs));
    difference = difference-by (shown d) d.view all-differ;
    sound = m.sound;
    held = all-held;
    ready = λ o lt. all-ready (Output o) (old-own (Output o) lt);
  }

  pub moved-lists : SameLists c d
  moved-lists = record { pulled = λ i. all-pass (Input i); pushed = λ o. all-pass (Output o) }
