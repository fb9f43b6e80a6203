-- The ports with one more keep their law: of the new port nothing is seen, and nothing went by.
use Rattle.node_births.proofs.Imports.{AddsPort, Bool, Differs, EdgeEnd, GainsPort, HasPortOf, Input, InputPort, IsEnd, IsNextPort, IsPort, IsSound, Learns, List, MayGain, NodePorts, NodeSeat, None, Option, Output, Picture, Port, PortKnown, PortsHold, PortsPicture, SameEdge, Some, Table, Wire, [], after_grow, ap, arith, both_ways, cases_eq, cases_lt, differs-quiet, edge_of, edges_at, end_of_view, eq-eqb, eqb-true, false, false_from_ne_true, flags_at, get_or, get_or-append_right, get_or_append_left, get_or_past, has, holds_data, in_count, inl, input_at, input_seen, inr, is_own_port, is_set, is_some, is_updated_port, knows, length, length-append, lifted_of, new_input, no_end, no_input, or_cases, or_left, or_right, out_count, output_at, output_seen, over_flags, own-or-past, passed, past-chunks, past-sight, peer, place, port_edge, ports_picture, pushes_to, quiet-passed, quiet-seen, quiet-sight, refl, seen_at, shown, shown-at, sight, slot_in, sound-grow, subst, suc, sym, taken-itself, taken_out, true, view, wide-counts, wide-input, wide-old, wide-output, with_input, with_output, zero, ℕ, ◌++◌, ◌+◌, ◌<◌, ◌==◌, ◌||◌, ◌∙◌, ◌∷◌, ◌≡◌, ◌≢◌, ◌≤◌, ◌⊎◌}

-- ---- a list with one more

last-old : {A : Type 0} (xs : List A) (x past : A) (k : ℕ) → k < length xs
    → get_or (xs ++ x ∷ []) k past ≡ get_or xs k past
last-old xs x past k lt = get_or_append_left xs (x ∷ []) past k lt

last-new : {A : Type 0} (xs : List A) (x past : A) (k : ℕ) → k ≡ length xs
    → get_or (xs ++ x ∷ []) k past ≡ x
last-new xs x past k e = grind (arith, get_or-append_right, e)

-- how many more inputs there are with the port, and how many more outputs
abbrev pub more_inputs : Port → ℕ
more_inputs (Input i) = 1
more_inputs (Output o) = 0

abbrev pub more_outputs : Port → ℕ
more_outputs (Input i) = 0
more_outputs (Output o) = 1

pub inputs-length : {A : Type 0} (p : Port) (xs : List A) (x : A)
    → length (with_input p xs x) ≡ length xs + more_inputs p
inputs-length (Input i) xs x = length-append xs (x ∷ [])
inputs-length (Output o) xs x = omega arith

pub outputs-length : {A : Type 0} (p : Port) (xs : List A) (x : A)
    → length (with_output p xs x) ≡ length xs + more_outputs p
outputs-length (Input i) xs x = omega arith
outputs-length (Output o) xs x = length-append xs (x ∷ [])

-- ---- an edge that no port has isn't known

has-at : (xs : List ℕ) (k e : ℕ) → k < length xs → get_or xs k 0 ≡ e → has e xs ≡ true
has-at [] k e lt is = absurd (omega (arith, lt))
has-at (x ∷ xs) zero e lt is = or_left _ _ (eq-eqb x e is)
has-at (x ∷ xs) (suc k) e lt is = or_right _ _ (has-at xs k e (omega (arith, lt)) is)

has-edge : (c : PortsPicture) (p : Port) (e : ℕ) → is_own_port c p → edge_of c p ≡ e
    → (has e c.inputs || has e c.outputs) ≡ true
has-edge c (Input i) e own is = or_left _ _ (has-at c.inputs i e own is)
has-edge c (Output o) e own is = or_right _ _ (has-at c.outputs o e own is)

pub none-unknown : (c : PortsPicture) (e : ℕ) → PortsHold c
    → (has e c.inputs || has e c.outputs) ≡ false → knows e c.node.state.seen ≡ false
none-unknown c e h none = false_from_ne_true _ (λ k. let p = h.cover e k in
    both_ways _ none (has-edge c p.port e p.there p.is))

-- ---- what went by at no port

past-passed : (c : PortsPicture) → PortsHold c → c.view.actions ≡ [] → (q : Port)
    → length (edges_at c q) ≤ place q → passed c q ≡ []
unfolding pushes_to
past-passed c h quiet (Input i) le = (λ j. past-chunks c (Input i) le j ++ taken_out (input_at
    (shown c) i).chunk ((ap (λ (x : InputPort). x.chunk) (quiet-sight c h quiet (Input i))) j)) ∙
    taken-itself (input_at (shown c) i).chunk
past-passed c h quiet (Output o) le = (λ j. past-chunks c (Output o) le j ++ pushes_to o (quiet j))

-- ---- numbers at ports

abbrev pub side : Port → List ℕ → List ℕ → List ℕ
side (Input i) ins outs = ins
side (Output o) ins outs = outs

old-number : (p q : Port) (ins outs : List ℕ) (x : ℕ) → IsPort (length ins) (length outs) q
    → port_edge (with_input p ins x) (with_output p outs x) q ≡ port_edge ins outs q
old-number (Input k) (Input i) ins outs x lt = last-old ins x 0 i lt
old-number (Input k) (Output o) ins outs x lt = refl
old-number (Output k) (Input i) ins outs x lt = refl
old-number (Output k) (Output o) ins outs x lt = last-old outs x 0 o lt

pub new-number : (p : Port) (ins outs : List ℕ) (x : ℕ) → place p ≡ length (side p ins outs)
    → port_edge (with_input p ins x) (with_output p outs x) p ≡ x
new-number (Input i) ins outs x e = last-new ins x 0 i e
new-number (Output o) ins outs x e = last-new outs x 0 o e

-- a port with one more is one of those before, or that one
split-own : (p q : Port) (ins outs : List ℕ) (x : ℕ) → place p ≡ length (side p ins outs)
    → IsPort (length (with_input p ins x)) (length (with_output p outs x)) q
    → IsPort (length ins) (length outs) q ⊎ (q ≡ p)
split-own (Input k) (Input i) ins outs x e lt =
    grind (arith, inputs-length (Input k) ins x, cases_lt i (length ins))
split-own (Input k) (Output o) ins outs x e lt = inl lt
split-own (Output k) (Input i) ins outs x e lt = inl lt
split-own (Output k) (Output o) ins outs x e lt =
    let len = outputs-length (Output k) outs x in grind (arith, cases_lt o (length outs))

more-own : (p q : Port) (ins outs : List ℕ) (x : ℕ) → IsPort (length ins) (length outs) q
    → IsPort (length (with_input p ins x)) (length (with_output p outs x)) q
more-own p (Input i) ins outs x lt = let len = inputs-length p ins x in omega (arith, lt, len)
more-own p (Output o) ins outs x lt = let len = outputs-length p outs x in omega (arith, lt, len)

new-own : (p : Port) (ins outs : List ℕ) (x : ℕ) → place p ≡ length (side p ins outs)
    → IsPort (length (with_input p ins x)) (length (with_output p outs x)) p
new-own (Input i) ins outs x e = omega (arith, e, inputs-length (Input i) ins x)
new-own (Output o) ins outs x e = omega (arith, e, outputs-length (Output o) outs x)

-- an input that wasn't there isn't needed, and each other one is as before
old-need : (p : Port) (xs : List Bool) (i : ℕ) → i < length xs
    → get_or (with_input p xs false) i false ≡ get_or xs i false
old-need (Input k) xs i lt = last-old xs false false i lt
old-need (Output o) xs i lt = refl

new-need : (p : Port) (xs : List Bool) (i : ℕ) → length xs ≤ i
    → get_or (with_input p xs false) i false ≡ false
new-need (Input k) xs i le = elim (cases_eq i (length xs)) [
  | inl e ↦ last-new xs false false i e
  | inr ne ↦ let len = length-append xs (false ∷ []) in
      get_or_past (xs ++ false ∷ []) i false (omega (arith, le, ne, len))
]
new-need (Output o) xs i le = get_or_past xs i false le

-- ---- sights

abbrev count_of : Picture → Port → ℕ
count_of v (Input i) = in_count v
count_of v (Output o) = out_count v

past-view : (v : Picture) (q : Port) → count_of v q ≤ place q
    → sight v q ≡ sight (record { inputs = []; outputs = []; actions = [] }) q
unfolding input_at output_at in_count out_count
past-view v (Input i) le = get_or_past v.inputs i no_input le
past-view v (Output o) le =
    ap (λ f. record { flags = f; chunk = None }) (get_or_past v.outputs o over_flags le)

lifted-none : (s : Option (Option Table)) → lifted_of s None ≡ None
lifted-none None = refl
lifted-none (Some None) = refl
lifted-none (Some (Some x)) = refl

-- the view with more ports shows old ones as before, and nothing at new ones
module _ (v : Picture) (ins outs : ℕ) (le_in : in_count v ≤ ins) (le_out : out_count v ≤ outs) where
  old-sight : (q : Port) → IsPort (in_count v) (out_count v) q
      → sight (after_grow v ins outs) q ≡ sight v q
  old-sight (Input i) lt = wide-old v ins outs le_in le_out (Input i) lt
  old-sight (Output o) lt = ap (λ f. record { flags = f; chunk = None })
      (wide-old v ins outs le_in le_out (Output o) lt)

  new-sight : (p : Port) → IsPort ins outs p → count_of v p ≤ place p
      → sight (after_grow v ins outs) p ≡ new_input
  new-sight (Input i) lt le = wide-input v ins outs le_in le_out i le lt
  new-sight (Output o) lt le = ap (λ f. record { flags = f; chunk = None })
      (wide-output v ins outs le_in le_out o le lt)

-- ---- the law

module _ (p : Port) (e : ℕ) (w : Wire) (po pn : NodePorts) (old new : NodeSeat)
    (before : MayGain (ports_picture po old)) (unknown : knows e (view old).state.seen ≡ false)
    (at : IsEnd w (view old).number p) (apart : w.from ≢ w.to) (is_next : IsNextPort p po)
    (l : Learns e w old new) (m : AddsPort p e (peer w p) po pn) where
  abbrev c : PortsPicture
  c = ports_picture po old

  abbrev d : PortsPicture
  d = ports_picture pn new

  abbrev h : PortsHold c
  h = before.holds

  abbrev ins : ℕ
  ins = length d.inputs

  abbrev outs : ℕ
  outs = length d.outputs

  next : place p ≡ length (side p c.inputs c.outputs)
  next = by p is_next
    where
      by : (q : Port) → IsNextPort q po → place q ≡ length (side q c.inputs c.outputs)
      by (Input i) n = n.0
      by (Output o) n = n.0

  ins-are : ins ≡ length c.inputs + more_inputs p
  ins-are = ap length m.inputs ∙ inputs-length p c.inputs e

  outs-are : outs ≡ length c.outputs + more_outputs p
  outs-are = ap length m.outputs ∙ outputs-length p c.outputs e

  le_in : in_count c.view ≤ ins
  le_in = let was = h.ins in let is = ins-are in omega (arith, was, is)

  le_out : out_count c.view ≤ outs
  le_out = let was = h.outs in let is = outs-are in omega (arith, was, is)

  counts : (in_count d.view ≡ ins) × (out_count d.view ≡ outs)
  counts = let wide = wide-counts c.view ins outs le_in le_out in
      (ap in_count m.view ∙ wide.0, ap out_count m.view ∙ wide.1)

  quiet : d.view.actions ≡ []
  quiet = ap (λ (v : Picture). v.actions) m.view ∙ before.quiet

  own-split : (q : Port) → is_own_port d q → is_own_port c q ⊎ (q ≡ p)
  own-split q own = grind (arith, split-own, c.inputs, c.outputs)

  own-still : (q : Port) → is_own_port c q → is_own_port d q
  own-still q own = rw (m.inputs, m.outputs) (more-own p q c.inputs c.outputs e own)

  own-new : is_own_port d p
  own-new = rw (m.inputs, m.outputs) (new-own p c.inputs c.outputs e next)

  edge-still : (q : Port) → is_own_port c q → edge_of d q ≡ edge_of c q
  edge-still q own = (λ j. port_edge (m.inputs j) (m.outputs j) q)
      ∙ old-number p q c.inputs c.outputs e own

  edge-new : edge_of d p ≡ e
  edge-new = (λ j. port_edge (m.inputs j) (m.outputs j) p) ∙ new-number p c.inputs c.outputs e next

  other-edge : (q : Port) → is_own_port c q → edge_of c q ≢ e
  other-edge q own same = let k = (h.known q own).known in
      let z : true ≡ false = sym k ∙ (ap (λ f. knows f c.node.state.seen) same ∙ unknown) in cc

  same : (q : Port) → is_own_port c q → SameEdge c d (edge_of c q)
  same q own = let s = l.others (edge_of c q) (other-edge q own) in
      record { flags = s.flags; end = s.end; slot = s.slot }

  end-new : end_of_view d.node e ≡ record { wire = Some w; chunks = []; turn = None }
  end-new = l.end ∙ ap (λ (z : EdgeEnd). record z { wire = Some w }) (h.bare e unknown)

  -- ---- what the ports show

  seen-still : (q : Port) → is_own_port c q → seen_at d q ≡ seen_at c q
  seen-still (Input i) own = ap (input_seen d.node d.slots) (edge-still (Input i) own)
      ∙ at-edge (same (Input i) own)
    where
      at-edge : {f : ℕ} → SameEdge c d f → input_seen d.node d.slots f ≡ input_seen c.node c.slots f
      at-edge s = grind (arith, s.flags, s.end, s.slot)
  seen-still (Output o) own = ap (λ f. record { flags = f; chunk = None })
      (ap (output_seen d.node) (edge-still (Output o) own) ∙ (same (Output o) own).flags)

  sight-still : (q : Port) → is_own_port c q → sight d.view q ≡ sight c.view q
  sight-still q own = ap (λ v. sight v q) m.view
      ∙ old-sight c.view ins outs le_in le_out q (in-view q own)
    where
      in-view : (q : Port) → is_own_port c q → IsPort (in_count c.view) (out_count c.view) q
      in-view (Input i) lt = let was = h.ins in omega (arith, lt, was)
      in-view (Output o) lt = let was = h.outs in omega (arith, lt, was)

  seen-new : seen_at d p ≡ new_input
  seen-new = new-seen p edge-new
    where
      new-seen : (q : Port) → edge_of d q ≡ e → seen_at d q ≡ new_input
      new-seen (Input i) is = (λ j. record {
        flags = (ap (λ f. flags_at f d.node.state.seen) is ∙ l.flags) j;
        chunk = (ap (λ f. lifted_of (slot_in f d.slots) (end_of_view d.node f).turn) is
            ∙ (ap (λ (z : EdgeEnd). lifted_of (slot_in e d.slots) z.turn) end-new
            ∙ lifted-none (slot_in e d.slots))) j;
      })
      new-seen (Output o) is = ap (λ f. record { flags = f; chunk = None })
          (ap (λ f. flags_at f d.node.state.seen) is ∙ l.flags)

  past-new : count_of c.view p ≤ place p
  past-new = past p next
    where
      past : (q : Port) → place q ≡ length (side q c.inputs c.outputs) → count_of c.view q ≤ place q
      past (Input i) is = let was = h.ins in omega (arith, was, is)
      past (Output o) is = let was = h.outs in omega (arith, was, is)

  own-sight : (q : Port) → is_own_port d q → sight d.view q ≡ seen_at d q
  own-sight q own = elim (own-split q own) [
    | inl old ↦ sight-still q old ∙ (quiet-seen c h before.quiet q old ∙ sym (seen-still q old))
    | inr new ↦ rw new (ap (λ v. sight v p) m.view ∙ (new-sight c.view ins outs le_in le_out p
        own-new past-new ∙ sym seen-new))
  ]

  all-sights : (q : Port) → sight d.view q ≡ sight (shown d) q
  all-sights q = elim (own-or-past d q) [
    | inl own ↦ own-sight q own ∙ sym (shown-at d q own)
    | inr past ↦ past-view d.view q (view-past q past) ∙ sym (past-sight d q past)
  ]
    where
      view-past : (q : Port) → length (edges_at d q) ≤ place q → count_of d.view q ≤ place q
      view-past (Input i) le = let a = counts.0 in omega (arith, le, a)
      view-past (Output o) le = let a = counts.1 in omega (arith, le, a)

  -- ---- what the seat knows of them

  known-new : PortKnown d p
  known-new = record {
    known = ap (λ f. knows f d.node.state.seen) edge-new
        ∙ (l.known e ∙ or_right (knows e c.node.state.seen) (e == e) (eq-eqb e e refl));
    wire = w;
    is = ap (λ f. (end_of_view d.node f).wire) edge-new ∙ ap (λ (z : EdgeEnd). z.wire) l.end;
    at_port = subst (λ n. IsEnd w n p) (sym l.number) at;
    apart = apart;
    other = (λ j. port_edge (m.sources j) (m.targets j) p)
        ∙ new-number p c.sources c.targets (peer w p) (next ∙ as-peers p);
  }
    where
      as-peers : (q : Port)
          → length (side q c.inputs c.outputs) ≡ length (side q c.sources c.targets)
      as-peers (Input i) = sym h.peers.0
      as-peers (Output o) = sym h.peers.1

  wire-still : (q : Port) → is_own_port c q
      → (end_of_view d.node (edge_of c q)).wire ≡ (end_of_view c.node (edge_of c q)).wire
  wire-still q own = ap (λ (z : EdgeEnd). z.wire) (same q own).end

  known-still : (q : Port) → is_own_port c q → PortKnown d q
  known-still q own = let was = h.known q own in record {
    known = ap (λ f. knows f d.node.state.seen) (edge-still q own) ∙ (l.known (edge_of c q)
        ∙ ap (λ b. b || (e == edge_of c q)) was.known);
    wire = was.wire;
    is = ap (λ f. (end_of_view d.node f).wire) (edge-still q own) ∙ (wire-still q own ∙ was.is);
    at_port = rw l.number was.at_port;
    apart = was.apart;
    other = grind (arith, old-number, c.sources, c.targets, h.peers.0, h.peers.1, was.other);
  }

  known-all : (q : Port) → is_own_port d q → PortKnown d q
  known-all q own = grind (arith, own-split, known-still, known-new)

  covers : (f : ℕ) → knows f d.node.state.seen ≡ true → HasPortOf d f
  covers f k = grind (arith, or_cases, own-still, edge-still, own-new, edge-new, eqb-true, h.cover)

  unlooked-known : (f : ℕ) → has f d.node.state.unlooked ≡ true
      → knows f d.node.state.seen ≡ true
  unlooked-known f k = grind (arith, or_cases, or_right, c.node.state.seen)

  still-bare : (f : ℕ) → knows f d.node.state.seen ≡ false → end_of_view d.node f ≡ no_end
  still-bare f k = (l.others f (λ same. both_ways (knows f c.node.state.seen || (e == f)) (sym
      (l.known f) ∙ k) (or_right (knows f c.node.state.seen) (e == f) (eq-eqb e f (sym same))))).end
      ∙ h.bare f (false_from_ne_true _ (λ was. both_ways (knows f c.node.state.seen || (e == f))
      (sym (l.known f) ∙ k) (or_left (knows f c.node.state.seen) (e == f) was)))

  each-updated : (q : Port) → is_updated_port q d.updated ≡ true
  each-updated (Input i) = ap (λ b. b || is_set d.updated.inputs i) m.first
  each-updated (Output o) = ap (λ b. b || is_set d.updated.outputs o) m.first

  need : (i : ℕ) → i < ins
      → get_or d.needed i false ≡ (flags_at (edge_of d (Input i)) d.node.state.seen).needed
  need i lt = elim (own-split (Input i) lt) [
    | inl old ↦ ap (λ l. get_or l i false) m.needed ∙ (old-need p c.needed i
        (omega (arith, old, h.needed_len)) ∙ (h.needed i old ∙ sym (ap (λ (x : InputPort).
        x.flags.needed) (seen-still (Input i) old))))
    | inr new ↦
        grind (arith, new-need p c.needed i (past-need p new next), seen-new, m.needed, c.needed)
  ]
    where
      past-need : (q : Port) → Input i ≡ q → place q ≡ length (side q c.inputs c.outputs)
          → length c.needed ≤ i
      past-need (Input k) same is = let s : i ≡ k = cc in omega (arith, h.needed_len, s, is)
      past-need (Output o) same is = absurd (cc)

  sound : IsSound d.view
  sound = subst IsSound (sym m.view) (sound-grow c.view _ _ h.sound)

  held : (i : ℕ) → holds_data (input_at (shown d) i).flags ≡ true
      → is_some (input_at (shown d) i).chunk ≡ true
  held i = rw (all-sights (Input i)) at (sound.held i)

  ready : (o : ℕ) → o < outs → (output_at (shown d) o).needed ≡ true
      → (output_at (shown d) o).has_data ≡ false
      → slot_in (edge_of d (Output o)) d.slots ≡ Some None
  ready o lt asked empty = elim (own-split (Output o) lt) [
    | inl old ↦ let shows : sight (shown d) (Output o) ≡ sight (shown c) (Output o) = sym
        (all-sights (Output o)) ∙ (sight-still (Output o) old ∙ quiet-sight c h before.quiet (Output
        o)) in
        ap (λ f. slot_in f d.slots) (edge-still (Output o) old) ∙ ((same (Output o) old).slot ∙
        h.ready o old (sym (ap (λ (x : InputPort). x.flags.needed) shows) ∙ asked) (sym (ap (λ (x :
        InputPort). x.flags.has_data) shows) ∙ empty))
    | inr new ↦ grind (arith, sight (shown d) (Output o), shown-at d (Output o) lt, seen-new)
  ]

  more-holds : PortsHold d
  more-holds = record {
    known = known-all;
    cover = covers;
    bare = still-bare;
    unlooked = unlooked-known;
    updated = λ q own k. each-updated q;
    peers = (
      grind (arith, inputs-length p c.sources (peer w p), ins-are, c.sources, h.peers.0),
      grind (arith, outputs-length, outs-are, m.targets, c.targets, h.peers.1),
    );
    ins = counts.0;
    outs = counts.1;
    needed = need;
    needed_len = ap length m.needed ∙ (inputs-length p c.needed false
        ∙ (ap (λ n. n + more_inputs p) h.needed_len ∙ sym ins-are));
    difference = record {
      input_flags = λ i. (differ (Input i)).0;
      input_chunks = λ i. (differ (Input i)).1;
      output_flags = λ o. (differ (Output o)).0;
      inputs_allow = λ i. (differ (Input i)).2;
      outputs_allow = λ o. (differ (Output o)).1;
    };
    sound = sound;
    held = held;
    ready = ready;
  }
    where
      differ : (q : Port) → Differs q (sight (shown d) q) d.view
      differ q = differs-quiet q (sight (shown d) q) d.view quiet (all-sights q)

  -- ---- what went by

  passes : (q : Port) → passed d q ≡ passed c q
  passes q = elim (own-or-past d q) [
    | inl own ↦ elim (own-split q own) [
      | inl old ↦ quiet-passed d q own quiet (own-sight q own) ∙ (ap (λ f. (end_of_view d.node
          f).chunks) (edge-still q old) ∙ (ap (λ (z : EdgeEnd). z.chunks) (same q old).end ∙ sym
          (quiet-passed c q old before.quiet (quiet-seen c h before.quiet q old))))
      | inr new ↦ quiet-passed d q own quiet (own-sight q own) ∙ (ap (λ f. (end_of_view d.node
          f).chunks) (ap (edge_of d) new ∙ edge-new) ∙ (ap (λ (z : EdgeEnd). z.chunks) end-new ∙ sym
          (rw new (past-passed c h before.quiet p (past-side p next)))))
    ]
    | inr past ↦ past-passed d more-holds quiet q past
        ∙ sym (past-passed c h before.quiet q (past-was q past))
  ]
    where
      past-side : (q : Port) → place q ≡ length (side q c.inputs c.outputs)
          → length (edges_at c q) ≤ place q
      past-side (Input i) is = omega (arith, is)
      past-side (Output o) is = omega (arith, is)

      past-was : (q : Port) → length (edges_at d q) ≤ place q → length (edges_at c q) ≤ place q
      past-was (Input i) le = let is = ins-are in omega (arith, le, is)
      past-was (Output o) le = omega (arith, le, outs-are)

  pub gains-port : GainsPort p e w c d
  gains-port = record {
    gains = record {
      may = record { holds = more-holds; quiet = quiet };
      lists = record { pulled = λ i. passes (Input i); pushed = λ o. passes (Output o) };
      inputs = let is = ins-are in omega (arith, is);
      outputs = let is = outs-are in omega (arith, is);
      edges = edge-still;
      wires = wire-still;
      view = m.view;
      number = l.number;
      stage = l.stage;
      held = l.held;
      tokens = l.tokens;
      owes = l.owes;
    };
    at_port = subst (λ n. IsEnd w n p) (sym l.number) at;
    apart = apart;
    wire = ap (λ (z : EdgeEnd). z.wire) l.end;
    known = l.known;
    inputs = m.inputs;
    outputs = m.outputs;
    sources = m.sources;
    targets = m.targets;
    first = m.first;
  }
