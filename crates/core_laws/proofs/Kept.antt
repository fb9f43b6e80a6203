-- Every step keeps the laws: of edges, of nodes, and of tokens.
use Rattle.core_laws.proofs.Imports.{Act, Bool, Close, CoreState, EdgeHolds, Edges, EndTold, EndsAreTold, Finish, Flags, Laws, List, NodeState, NodeStateHolds, Nodes, None, Option, PortState, Pull, Push, Sees, Sizes, Some, Step, TokensHold, Unwant, Want, Wire, WireHolds, WordHolds, [], acted, acting_end, adding, after, and_parts, ap, arith, bit_at_end, bit_of, bit_or, born, both_ways, cases_Bool, cases_eq, changed, cond, cond_both, counts, edges_of, end_of, eqb, eqb-true, false, flags_at, get_or-le-sum_by, get_or-set_other, get_or-set_same, get_or_default, has, inl, inr, is_edge, is_excused, is_held_end, is_none, is_none_of, is_over, is_set, is_unborn, is_updated, knows, lacks, learned, learning, left, length, length-set, looked, map-append, marked, may, may_act, may_wire, names, ne_eqb, no_node, no_port, node_at, node_of, not, or_cases, or_left, or_right, peer_in, port_after, port_at, port_of, put_node, refl, seeing, set, set-get_or, spent, subst, sum_by-le, sum_by-set, sym, taken, telling, tells, true, weight, wire_ok, wiring, with_bit, with_tokens, without, ℕ, ◌&&◌, ◌*◌, ◌+◌, ◌-◌, ◌<◌, ◌^◌, ◌||◌, ◌∙◌, ◌∷◌, ◌≡◌, ◌≢◌, ◌≤◌}
use Rattle.chunk_data.proofs.Places.{at-set}
use Rattle.core_laws.specs.declared.types.Step.TheVariants as step
use Rattle.core_laws.proofs.Lists.{has-filter, once-filter, has-last, has-adding, once-last, once-adding, edges-seeing, seeing-here, seeing-other, flags-unknown, flags-last}
use Rattle.core_laws.proofs.Bits.{zero-clear, pow-clear, or-other, or-here, or-more, word-one, word-idle, word-told, flip-other, flip-lone, word-born, end-within, at-end, peer-of, EndOf, end-of, an-end, not-not, both-ends}
use Rattle.core_laws.proofs.Moves.{EndMoves, act-moves, same-flags, lacks-none, look-moves}

-- what a state has that a step left; the tokens may be counted apart
pub record Kept (c d : CoreState) : Type 0 where
  pub edges : Edges d
  pub nodes : Nodes d
  pub tokens : TokensHold c → TokensHold d

-- the laws of the edge e, whose port is p
abbrev Holds : Sizes → List NodeState → ℕ → PortState → Type 0
Holds s nodes e p = EdgeHolds s nodes e p × EndsAreTold nodes e p.wire p.flags

-- a step that changes neither ports nor nodes
same-kept : (c : CoreState) (stopped : Bool) → Edges c → Nodes c
    → Kept c (record c { stopped = stopped })
same-kept c stopped edges nodes = grind arith

-- ---- a change of the view of one node, and of ports

module _ (c : CoreState) (n : ℕ) (nd : NodeState) (inside : n < length c.nodes) where
  abbrev old : NodeState
  old = node_at c n

  abbrev new : List NodeState
  new = set c.nodes n nd

  abbrev now : ℕ → NodeState
  now m = node_of new m

  -- what a change of one node leaves the same of it, it leaves of all
  now-same : {B : Type 0} (g : NodeState → B) → g nd ≡ g old → (m : ℕ) → g (now m) ≡ g (node_at c m)
  now-same g q m = at-set (λ x. g x ≡ g (node_at c m)) c.nodes n m nd no_node inside
      (λ e. q ∙ sym (ap (λ k. g (node_at c k)) e)) (λ _. refl)

  -- the laws of a state with these ports, this node, and another pending number
  frame : (ps : List PortState) (p : ℕ) → length ps ≡ length c.ports → NodeStateHolds nd
      → ((d : ℕ) → knows d nd.seen ≡ true → d < length c.ports)
      → ((d : ℕ) → d < length c.ports → Holds c.sizes new d (port_of ps d))
      → (TokensHold c → (nd.tokens ≤ 2) × (p + weight old ≡ c.pending + weight nd))
      → Edges c → Nodes c → Kept c (record c { ports = ps; nodes = new; pending = p })
  frame ps p len is_held_end known each count edges nodes = record {
    edges = record {
      count = len ∙ edges.count;
      known = λ m d k. subst (λ l. d < l) (sym len) (at-set
          (λ y. knows d y.seen ≡ true → d < length c.ports) c.nodes n m nd no_node inside
          (λ _. known d) (λ _. edges.known m d) k);
      each = λ d i. (each d (subst (λ k. d < k) len i)).0;
    };
    nodes = record {
      number = length-set c.nodes n nd ∙ nodes.number;
      each = λ m. at-set NodeStateHolds c.nodes n m nd no_node inside (λ _. is_held_end)
          (λ _. nodes.each m);
      told = λ d i. (each d (subst (λ k. d < k) len i)).1;
    };
    tokens = λ t. record {
      pending = let z = sum_by-set weight c.nodes n nd no_node inside in let y = t.pending in
          let x = (count t).1 in omega (arith, x, y, z);
      few = λ m. at-set (λ y. y.tokens ≤ 2) c.nodes n m nd no_node inside (λ _. (count t).0)
          (λ _. t.few m);
    };
  }

  -- an edge that the node sees as before, with its excuses and debts; else the peer is excused
  unmoved : (d : ℕ) (p : PortState) → flags_at d nd.seen ≡ flags_at d old.seen
      → (knows d nd.seen ≡ true → names n p.wire ≡ true)
      → ((b : Bool) (w : Wire) → p.wire ≡ Some w → end_of b w ≡ n
      → is_excused old d (bit_of b w) ≡ true → is_excused nd d (bit_of b w) ≡ true)
      → ((b : Bool) (w : Wire) → p.wire ≡ Some w → end_of (not b) w ≡ n → has d old.owes ≡ true
      → (is_excused (now (end_of b w)) d (bit_of b w) || has d nd.owes) ≡ true)
      → Holds c.sizes c.nodes d p → Holds c.sizes new d p
  unmoved d p same named excused owes h = (
    record {
      wired = h.0.wired;
      content = h.0.content;
      bare = h.0.bare;
      sees = λ b w i. subst (λ f. Sees b p.flags f) (sym (flags (end_of b w))) (h.0.sees b w i);
      learned = λ m. at-set (λ y. knows d y.seen ≡ true → names m p.wire ≡ true) c.nodes n m nd
          no_node inside (λ t k. subst (λ i. names i p.wire ≡ true) (sym t) (named k))
          (λ _. h.0.learned m);
    },
    λ b w i l. elim (or_cases _ _
        (h.1 b w i (subst (λ f. lacks b p.flags f ≡ true) (flags (end_of b w)) l))) [
          | inl x ↦ or_left _ _ (at-set (λ y. is_excused y d (bit_of b w) ≡ true) c.nodes n
              (end_of b w) nd no_node inside (λ t. excused b w i t
              (subst (λ m. is_excused (node_at c m) d (bit_of b w) ≡ true) t x)) (λ _. x))
          | inr z ↦ at-set (λ y. (is_excused (now (end_of b w)) d (bit_of b w) || has d y.owes)
              ≡ true) c.nodes n (end_of (not b) w) nd no_node inside (λ t. owes b w i t
              (subst (λ m. has d (node_at c m).owes ≡ true) t z)) (λ _. or_right _ _ z)
        ],
  )
    where
      flags : (m : ℕ) → flags_at d (now m).seen ≡ flags_at d (node_at c m).seen
      flags = now-same (λ y. flags_at d y.seen) same

  -- what holds at both ends of the wire w, of which the node is the end b
  at-ends : (Q : Bool → Wire → NodeState → NodeState → Type 0) (b : Bool) (w : Wire)
      → wire_ok c.sizes.nodes w ≡ true → end_of b w ≡ n → Q b w nd (node_at c (end_of (not b) w))
      → Q (not b) w (node_at c (end_of (not b) w)) nd → (a : Bool) (v : Wire) → v ≡ w
      → Q a v (now (end_of a v)) (now (end_of (not a) v))
  at-ends Q b w ok at x y a v t =
      grind (arith, both-ends, not-not, get_or-set_same, get_or-set_other, end-within)

  -- the edge e, whose port p the node leaves as q
  moved : (e : ℕ) (b : Bool) (p q : PortState) (f : Flags) (owes : Bool)
      → EndMoves p (flags_at e old.seen) b q f owes → EndOf b n p.wire → knows e old.seen ≡ true
      → nd.seen ≡ seeing e f old.seen
      → (lacks b q.flags f ≡ true → (k : ℕ) → is_excused old e k ≡ true → is_excused nd e k ≡ true)
      → (owes ≡ true → has e nd.owes ≡ true) → (has e old.owes ≡ true → has e nd.owes ≡ true)
      → Holds c.sizes c.nodes e p → Holds c.sizes new e q
  moved e b p q f owes m x known seen excused owed debts h = (
    record {
      wired = subst (λ z. WireHolds c.sizes e z) (sym m.wire) h.0.wired;
      content = m.content h.0.content was;
      bare = λ z. let u = m.wire in let v = x.is in absurd (cc);
      sees = λ a v z. at-ends (λ a w y _. Sees a q.flags (flags_at e y.seen)) b x.wire ok x.end
          (subst (λ g. Sees b q.flags g) (sym sees) (m.own was))
          (m.peer _ was (h.0.sees (not b) x.wire x.is)) a v (same v z);
      learned = λ k z. ap (names k) m.wire ∙ h.0.learned k (sym (now-same (λ y. knows e y.seen)
          (ap (λ y. knows e y) seen ∙ ap (has e) (edges-seeing e f old.seen)) k) ∙ z);
    },
    λ a v z. at-ends (λ a w y u. EndTold y u e q.flags a w) b x.wire ok x.end mine theirs a v
        (same v z),
  )
    where
      ok : wire_ok c.sizes.nodes x.wire ≡ true
      ok = h.0.wired.sound x.wire x.is

      sees : flags_at e nd.seen ≡ f
      sees = ap (flags_at e) seen ∙ seeing-here e f old.seen known

      same : (v : Wire) → q.wire ≡ Some v → v ≡ x.wire
      same v z = let u = m.wire in let y = x.is in cc

      was : Sees b p.flags (flags_at e old.seen)
      was = grind (arith, sees)

      mine : EndTold nd (node_at c (end_of (not b) x.wire)) e q.flags b x.wire
      mine l = grind (arith, sees, or_cases, or_left, or_right)

      theirs : EndTold (node_at c (end_of (not b) x.wire)) nd e q.flags (not b) x.wire
      theirs l = grind (arith, or_right, or_cases, or_left, cases_Bool owes, not-not b x.wire)

  -- a step that changes no sight: what it owed it owes
  view-kept : (p : ℕ) → nd.seen ≡ old.seen → nd.owes ≡ old.owes → NodeStateHolds nd
      → ((d : ℕ) (b : Bool) (w : Wire) → (port_at c d).wire ≡ Some w
      → wire_ok c.sizes.nodes w ≡ true → end_of b w ≡ n → is_excused old d (bit_of b w) ≡ true
      → is_excused nd d (bit_of b w) ≡ true)
      → (TokensHold c → (nd.tokens ≤ 2) × (p + weight old ≡ c.pending + weight nd))
      → Edges c → Nodes c → Kept c (record c { nodes = new; pending = p })
  view-kept p seen owes is_held_end excused count edges nodes = frame c.ports p refl is_held_end
      (λ d z. edges.known n d (ap (λ y. knows d y) (sym seen) ∙ z))
      (λ d i. unmoved d (port_at c d) (ap (flags_at d) seen)
      (λ z. (edges.each d i).learned n (ap (λ y. knows d y) (sym seen) ∙ z))
      (λ b w q. excused d b w q ((edges.each d i).wired.sound w q))
      (λ _ _ _ _ z. or_right _ _ (ap (has d) owes ∙ z)) (edges.each d i, nodes.told d i))
      count edges nodes

-- ---- steps on ports

owing-more : (t : Bool) (e d : ℕ) (l : List ℕ) → has d l ≡ true
    → has d (cond t (adding e l) l) ≡ true
owing-more t e d l h = grind (arith, has-adding)

owing-here : (t : Bool) (e : ℕ) (l : List ℕ) → t ≡ true → has e (cond t (adding e l) l) ≡ true
owing-here t e l h = grind (arith, has-adding)

looking-has : (t : Bool) (e d : ℕ) (l : List ℕ)
    → has d (cond t (without e l) l) ≡ (not (t && eqb d e) && has d l)
looking-has t e d l = grind (arith, has-filter)

-- the node's view after it looked at e, or acted on it
abbrev viewing : ℕ → Flags → Bool → Bool → NodeState → NodeState
viewing e f looks owes nd = record nd {
  seen = seeing e f nd.seen;
  unlooked = cond looks (without e nd.unlooked) nd.unlooked;
  owes = cond owes (adding e nd.owes) nd.owes;
}

viewing-holds : (e : ℕ) (f : Flags) (looks owes : Bool) (nd : NodeState) → nd.held ≡ true
    → knows e nd.seen ≡ true → NodeStateHolds nd → NodeStateHolds (viewing e f looks owes nd)
viewing-holds e f looks owes nd held known h = grind (
  arith,
  edges-seeing,
  cases_eq,
  looking-has,
  cond_both,
  once-filter,
  once-adding,
  has-adding,
)

-- a step of the held end b of the edge e, the node n, which leaves the ports as ps
moved-kept : (c : CoreState) (n e : ℕ) (b : Bool) (ps : List PortState) (q : PortState) (f : Flags)
    (looks owes : Bool) → is_held_end c n e ≡ true → EndOf b n (port_at c e).wire → set c.ports e q
    ≡ ps → EndMoves (port_at c e) (flags_at e (node_at c n).seen) b q f owes
    → (looks ≡ true → lacks b q.flags f ≡ false) → Edges c → Nodes c
    → Kept c (put_node (record c { ports = ps }) n (viewing e f looks owes (node_at c n)))
moved-kept c n e b ps q f looks owes g x is m none edges nodes =
    subst (λ l. Kept c (put_node (record c { ports = l }) n nd)) is
    (frame c n nd inside (set c.ports e q) c.pending (length-set c.ports e q)
    (viewing-holds e f looks owes old (grind arith) known (nodes.each n))
    (λ d z. edges.known n d (sym (seen d) ∙ z))
    (λ d i. at-set (Holds c.sizes (set c.nodes n nd) d) c.ports e d q no_port port_in
    (λ t. subst (λ k. Holds c.sizes (set c.nodes n nd) k q) (sym t)
    (moved c n nd inside e b (port_at c e) q f owes m x known refl
    (λ l k z. let u = look e in let s = seen e in elim (cases_Bool looks) [
      | inl y ↦ absurd (both_ways _ (none y) l)
      | inr y ↦ grind (arith, u, s, y, z)
    ])
    (owing-here owes e old.owes) (owing-more owes e e old.owes)
    (edges.each e port_in, nodes.told e port_in)))
    (λ ne. unmoved c n nd inside d (port_at c d) (seeing-other e d f old.seen ne)
    (λ z. (edges.each d i).learned n (sym (seen d) ∙ z))
    (λ _ w _ _ z. let u = look d in let s = seen d in let y = ne_eqb d e ne in
    grind (arith, u, s, y, z))
    (λ _ _ _ _ z. or_right _ _ (owing-more owes e d old.owes z))
    (edges.each d i, nodes.told d i)))
    (λ t. (t.few n, refl)) edges nodes)
  where
    old : NodeState
    old = node_at c n

    nd : NodeState
    nd = viewing e f looks owes (node_at c n)

    inside : n < length c.nodes
    inside = grind arith

    port_in : e < length c.ports
    port_in = grind arith

    known : knows e (node_at c n).seen ≡ true
    known = grind arith

    seen : (d : ℕ) → knows d (seeing e f (node_at c n).seen) ≡ knows d (node_at c n).seen
    seen d = ap (has d) (edges-seeing e f (node_at c n).seen)

    look : (d : ℕ) → has d nd.unlooked ≡ (not (looks && eqb d e) && has d (node_at c n).unlooked)
    look d = looking-has looks e d (node_at c n).unlooked

-- each act of a held end
act-kept : (a : Act) (c : CoreState) (n e : ℕ) → may_act a c n e ≡ true → Edges c → Nodes c
    → Kept c (acted a c n e)
act-kept a c n e g edges nodes = let p = and_parts _ _ g in let q = and_parts _ _ p.0 in
    moved-kept c n e (acting_end a) _ (port_after a (port_at c e))
    (changed a (flags_at e (node_at c n).seen)) false (tells a (port_at c e).flags) q.0
    (end-of (acting_end a) n (port_at c e).wire q.1) refl
    (act-moves a (port_at c e) (flags_at e (node_at c n).seen) p.1)
    (λ z. absurd (both_ways false refl z)) edges nodes

look-kept : (c : CoreState) (n e : ℕ) → is_held_end c n e ≡ true → Edges c → Nodes c
    → Kept c (put_node c n (looked c n e))
look-kept c n e g edges nodes =
    let x = an-end n (port_at c e).wire ((edges.each e (grind arith)).learned n (grind arith)) in
    moved-kept c n e x.0 c.ports (port_at c e) (port_at c e).flags true false g x.1
    (set-get_or c.ports e no_port) (look-moves x.0 (port_at c e) (flags_at e (node_at c n).seen))
    (λ _. lacks-none x.0 (port_at c e).flags) edges nodes

-- ---- steps on node words

no-wire : (x : Option Wire) → is_none x ≡ true → x ≡ None
no-wire x h = grind arith

nonzero : (w k : ℕ) → is_set w k ≡ true → eqb w 0 ≡ false
nonzero w k h = grind (arith, zero-clear k)

-- a held node counts, and isn't over
pub held-word : (c : CoreState) (n : ℕ) → (node_at c n).held ≡ true → Nodes c
    → (counts (node_at c n).word ≡ 1) × (is_over (node_at c n).word ≡ false)
held-word c n h nodes = let x = (nodes.each n).word in let w = (node_at c n).word in
    let on = x.held ∙ h in let a = x.lone 62 61 (omega arith) (omega arith) (λ z. omega arith) on in
    let b = x.lone 62 63 (omega arith) (omega arith) (λ z. omega arith) on in
    (grind (arith, nonzero w 62, on, a, b), b)

-- the node with another word and other tokens
reworded : (nd : NodeState) (w t : ℕ) → WordHolds w nd.held → NodeStateHolds nd
    → NodeStateHolds (record nd { word = w; tokens = t })
reworded nd w t word h = grind arith

-- begin and again
taken-kept : (c : CoreState) (n k : ℕ) → n < length c.nodes → k ≤ (node_at c n).tokens
    → is_over (node_at c n).word ≡ false → k + counts (node_at c n).word ≡ 1 → Edges c → Nodes c
    → Kept c (put_node c n (taken c n k))
taken-kept c n k inside some running one edges nodes =
    let h = nodes.each n in let known = edges_of (node_at c n).seen in
    view-kept c n (taken c n k) inside c.pending refl refl
    (record {
      word = word-one 62 true refl refl;
      owes = λ d z. (and_parts _ _ (h.owes d z)).1;
      unlooked = λ d z. grind (arith, has-filter (is_updated c n) known d, z);
      each_once = let o = h.each_once in (o.0, once-filter (is_updated c n) known o.0, o.2);
    })
    (λ d b w q ok t z. let y : is_set (node_at c n).word (bit_at_end n (port_at c d).wire) ≡ is_set
    (node_at c n).word (bit_of b w) = ap (λ x. is_set (node_at c n).word (bit_at_end n x)) q
    ∙ ap (is_set (node_at c n).word) (at-end c.sizes.nodes w ok b n t) in
    grind (arith, running, z, y, has-filter (is_updated c n) known d, h.unlooked d))
    (λ t. let x = t.few n in let y : counts (2 ^ 62) ≡ 1 = refl in
    (omega (arith, x), omega (arith, some, one, y))) edges nodes

none-has : (l : List ℕ) (e : ℕ) → is_none_of l ≡ true → has e l ≡ true → ⊥
none-has [] e h z = both_ways false refl z
none-has (x ∷ xs) e h z = grind arith

-- rest and over
left-kept : (c : CoreState) (n w : ℕ) → n < length c.nodes → (node_at c n).held ≡ true
    → is_none_of (node_at c n).owes ≡ true → (node_at c n).tokens < 2 → WordHolds w false
    → counts w ≡ 0 → ((d : ℕ) (b : Bool) (v : Wire) → wire_ok c.sizes.nodes v ≡ true
    → is_excused (node_at c n) d (bit_of b v) ≡ true
    → is_excused (left w (node_at c n)) d (bit_of b v) ≡ true) → Edges c → Nodes c
    → Kept c (put_node c n (left w (node_at c n)))
left-kept c n w inside held none few word zero excused edges nodes =
    view-kept c n (left w (node_at c n)) inside c.pending refl refl
    (record {
      word = word;
      owes = λ d z. absurd (none-has (node_at c n).owes d none z);
      unlooked = (nodes.each n).unlooked;
      each_once = (nodes.each n).each_once;
    })
    (λ d b v _ ok _. excused d b v ok)
    (λ t. let x = (held-word c n held nodes).0 in (omega arith, omega (arith, x, zero))) edges nodes

rest-kept : (c : CoreState) (n : ℕ) → may c n step.Rest ≡ true → Edges c → Nodes c
    → Kept c (after c n step.Rest)
rest-kept c n g edges nodes = cond_both (eqb (node_at c n).word (2 ^ 62)) _ c (Kept c)
    (λ q. let e = eqb-true (node_at c n).word (2 ^ 62) q in
    left-kept c n 0 (grind arith) (grind arith) (grind arith) (grind arith) word-idle refl
    (λ d b v ok z. let s = (end-within c.sizes.nodes v ok b).0 in
    let x : is_set (node_at c n).word (bit_of b v) ≡ false = ap (λ k. is_set k (bit_of b v)) e
    ∙ pow-clear 62 (bit_of b v) (λ y. omega (arith, s, y)) in
    let y : is_over (node_at c n).word ≡ false = ap is_over e in
    let u : has d (node_at c n).unlooked ≡ true → ⊥ = none-has (node_at c n).unlooked d
    (grind arith) in grind (arith, x, y, u, z)) edges nodes)
    (λ _. same-kept c c.stopped edges nodes)

born-kept : (c : CoreState) (n : ℕ) → n < length c.nodes → is_unborn (node_at c n).word ≡ true
    → 0 < (node_at c n).tokens → Edges c → Nodes c → Kept c (put_node c n (born (node_at c n)))
born-kept c n inside unborn some edges nodes =
    let nd : NodeState = node_at c n in let h = nodes.each n in
    let x = flip-lone nd.word nd.held unborn h.word in
    view-kept c n (born nd) inside c.pending refl refl
    (reworded nd (born nd).word (born nd).tokens (word-born nd.word nd.held unborn h.word) h)
    (λ d b w _ ok _ z. let s = (end-within c.sizes.nodes w ok b).0 in
    let y = flip-other nd.word (bit_of b w) (λ z. omega (arith, s, z)) (λ z. omega (arith, s, z)) in
    let v = flip-other nd.word 63 (λ z. omega arith) (λ z. omega arith) in grind (arith, y, v, z))
    (λ t. let z = t.few n in
    let v : is_over (born nd).word ≡ false = x.1 63 (omega arith) (λ z. omega arith) in
    let u = x.1 61 (omega arith) (λ z. omega arith) in
    let a : counts (born nd).word ≡ 1 = grind (arith, nonzero (born nd).word 60, x.0, u, v) in
    let y : counts nd.word ≡ 0 = grind arith in
    (omega (arith, z), omega (arith, a, y, some))) edges nodes

counted-kept : (c : CoreState) (n k p : ℕ) → n < length c.nodes
    → (TokensHold c → (k ≤ 2) × (p + (node_at c n).tokens ≡ c.pending + k)) → Edges c → Nodes c
    → Kept c (with_tokens c n k p)
counted-kept c n k p inside count edges nodes = view-kept c n (record (node_at c n) { tokens = k })
    inside p refl refl (reworded (node_at c n) (node_at c n).word k (nodes.each n).word
    (nodes.each n)) (λ _ _ _ _ _ _ z. z)
    (λ t. let x = (count t).1 in ((count t).0, omega (arith, x))) edges nodes

-- a node with a token: some token is pending
pub some-pending : (c : CoreState) (n : ℕ) → n < length c.nodes → 0 < (node_at c n).tokens
    → TokensHold c → 0 < c.pending
some-pending c n inside some h = grind (arith, get_or-le-sum_by)

-- ---- mark

-- a word that is told counts one more, as a token is spent where it was 0
counts-told : (w k : ℕ) → k < 48 → counts (bit_or w (2 ^ k)) ≡ counts w + spent w
counts-told w k small = grind (
  arith,
  nonzero (bit_or w (2 ^ k)) k,
  or-here w k,
  or-other w k 61,
  or-other w k 63,
  zero-clear 61,
  zero-clear 63,
)

-- the node n owes e a telling: its peer m has the bit k for it
pub record OwesMark (c : CoreState) (n e m k : ℕ) : Type 0 where
  pub peer_in : m < length c.nodes
  pub small : k < 48
  pub apart : m ≢ n
  pub bit : (b : Bool) (w : Wire) → (port_at c e).wire ≡ Some w → end_of (not b) w ≡ n
      → (end_of b w ≡ m) × (bit_of b w ≡ k)

-- who owes has a peer to tell
pub marks-of : (c : CoreState) (n e : ℕ) → may c n (step.Mark e) ≡ true → Edges c → Nodes c
    → OwesMark c n e (peer_in n (port_at c e).wire)
    (bit_at_end (peer_in n (port_at c e).wire) (port_at c e).wire)
marks-of c n e g edges nodes =
    let o : has e (node_at c n).owes ≡ true = grind arith in
    let x = an-end n (port_at c e).wire ((edges.each e port_in).learned n
    (and_parts (node_at c n).held _ ((nodes.each n).owes e o)).1) in
    let w = x.1.wire in let ok = sound w x.1.is in
    let y = at (not x.0) w x.1.is (not-not x.0 w ∙ x.1.end) in
    let v = end-within c.sizes.nodes w ok (not x.0) in let a = v.0 in let i = v.1 in
    let p = y.0 in let q = y.1 in let count = nodes.number in record {
      peer_in = omega (arith, i, p, count);
      small = omega (arith, a, q);
      apart = λ z. (end-within c.sizes.nodes w ok x.0).2 (p ∙ (z ∙ sym x.1.end));
      bit = at;
    }
  where
    port_in : e < length c.ports
    port_in = grind arith

    sound : (w : Wire) → (port_at c e).wire ≡ Some w → wire_ok c.sizes.nodes w ≡ true
    sound = (edges.each e port_in).wired.sound

    at : (b : Bool) (w : Wire) → (port_at c e).wire ≡ Some w → end_of (not b) w ≡ n
        → (end_of b w ≡ peer_in n (port_at c e).wire)
        × (bit_of b w ≡ bit_at_end (peer_in n (port_at c e).wire) (port_at c e).wire)
    at b w q t = grind (arith, peer-of, sound)

mark-kept : (c : CoreState) (n e m k : ℕ) → n < length c.nodes → 0 < (node_at c n).tokens
    → OwesMark c n e m k → Edges c → Nodes c → Kept c (marked c n e m k)
mark-kept c n e m k inside some x edges nodes = record {
  edges = last.edges;
  nodes = last.nodes;
  tokens = λ t. last.tokens (first.tokens t);
}
  where
    md : NodeState
    md = node_at c m

    mid : CoreState
    mid = record c { nodes = set c.nodes m (with_bit k md); pending = c.pending + spent md.word }

    first : Kept c mid
    first = view-kept c m (with_bit k md) x.peer_in (c.pending + spent md.word) refl refl
        (reworded md (with_bit k md).word md.tokens (word-told md.word k md.held x.small
        (nodes.each m).word) (nodes.each m))
        (λ d b w _ _ _ z. let p = or-more md.word k 63 in let q = or-more md.word k (bit_of b w) in
        grind (arith, p, q, z))
        (λ t. let z = counts-told md.word k x.small in (t.few m, omega (arith, z))) edges nodes

    same : node_at mid n ≡ node_at c n
    same = get_or-set_other c.nodes m n (with_bit k md) no_node (λ z. x.apart (sym z))

    within : n < length mid.nodes
    within = subst (λ z. n < z) (sym (length-set c.nodes m (with_bit k md))) inside

    telling-holds : (nd : NodeState) → NodeStateHolds nd
        → NodeStateHolds (telling e (spent md.word) nd)
    telling-holds nd h = grind (arith, has-filter, once-filter)

    set-bit : (b : Bool) (w : Wire) → (port_at c e).wire ≡ Some w → end_of (not b) w ≡ n
        → is_set (node_at mid (end_of b w)).word (bit_of b w) ≡ true
    set-bit b w q t = grind (arith, mid, get_or-set_same, md, or-here)

    last : Kept mid (marked c n e m k)
    last = subst (λ y. Kept mid (record c {
      nodes = set mid.nodes n (telling e (spent md.word) y);
    })) same (let nd = telling e (spent md.word) (node_at mid n) in
        frame mid n nd within mid.ports c.pending refl
        (telling-holds (node_at mid n) (first.nodes.each n)) (first.edges.known n)
        (λ d i. unmoved mid n nd within d (port_at c d) refl ((first.edges.each d i).learned n)
        (λ _ _ _ _ z. z)
        (λ b w q t z. elim (cases_eq d e) [
          | inl u ↦ let y = now-same mid n nd within (λ (y : NodeState). y.word) refl
              (end_of b w) in let v = ap (λ j. is_set j (bit_of b w)) y
              ∙ set-bit b w (ap (λ i. (port_at c i).wire) (sym u) ∙ q) t in
              or_left _ _ (or_left _ _ (or_right _ _ v))
          | inr ne ↦ let y = has-filter (λ j. not (eqb j e)) (node_at mid n).owes d in
              let v = ne_eqb d e ne in grind (arith, y, v, z)
        ]) (first.edges.each d i, first.nodes.told d i))
        (λ t. let z = t.few n in let y : 0 < (node_at mid n).tokens = subst (λ y. 0 < y.tokens)
        (sym same) some in let s : spent md.word ≤ 1 = grind arith in
        (omega (arith, z), omega (arith, y, s))) first.edges first.nodes)

-- ---- growth

learning-holds : (e : ℕ) (nd : NodeState) → knows e nd.seen ≡ false → NodeStateHolds nd
    → NodeStateHolds (learning e nd)
learning-holds e nd unknown h =
    grind (arith, map-append, has-last, has-adding, once-last, once-adding)

-- what a node knows that learned e
learning-knows : (e d : ℕ) (nd : NodeState)
    → knows d (learning e nd).seen ≡ (knows d nd.seen || eqb e d)
learning-knows e d nd = grind (arith, map-append, has-last)

-- a node that learned an edge of the state knows no other than these
learning-known : (c : CoreState) (n e : ℕ) → e < length c.ports → Edges c → (d : ℕ)
    → knows d (learning e (node_at c n)).seen ≡ true → d < length c.ports
learning-known c n e i edges d z = grind (arith, learning-knows, cases_eq, edges.known n d)

-- an edge of a node that learned e
learning-edge : (c : CoreState) (n e : ℕ) → n < length c.nodes → knows e (node_at c n).seen ≡ false
    → (d : ℕ) (p : PortState) → (d ≡ e → names n p.wire ≡ true) → Holds c.sizes c.nodes d p
    → Holds c.sizes (set c.nodes n (learning e (node_at c n))) d p
learning-edge c n e inside unknown d p named h = unmoved c n (learning e nd) inside d p
    (flags-last e d nd.seen unknown)
    (λ z. elim (cases_eq d e) [
      | inl t ↦ named t
      | inr ne ↦ h.0.learned n (grind (arith, learning-knows, z, ne_eqb e d (λ y. ne (sym y))))
    ])
    (λ b w _ _ z. grind (arith, learning-knows, has-adding e d nd.unlooked, z))
    (λ _ _ _ _ z. or_right _ _ z) h
  where
    nd : NodeState
    nd = node_at c n

wired-kept : (c : CoreState) (n e : ℕ) → is_edge c n e ≡ true → names n (port_at c e).wire ≡ true
    → Edges c → Nodes c → Kept c (learned c n e)
wired-kept c n e here named edges nodes = cond_both (knows e (node_at c n).seen) c _ (Kept c)
    (λ _. same-kept c c.stopped edges nodes)
    (λ u. frame c n (learning e (node_at c n)) inside c.ports c.pending refl
    (learning-holds e (node_at c n) u (nodes.each n)) (learning-known c n e port_in edges)
    (λ d i. learning-edge c n e inside u d (port_at c d)
    (λ t. subst (λ k. names n (port_at c k).wire ≡ true) (sym t) named)
    (edges.each d i, nodes.told d i)) (λ t. (t.few n, refl)) edges nodes)
  where
    inside : n < length c.nodes
    inside = grind arith

    port_in : e < length c.ports
    port_in = grind arith

-- a reserved edge gets its wire, and the node learns it
wire-kept : (c : CoreState) (n e : ℕ) (w : Wire) → may c n (step.Wire e w) ≡ true
    → (port_at c e).wire ≡ None → Edges c → Nodes c → Kept c (learned (wiring c e w) n e)
wire-kept c n e w g none edges nodes =
    cond_both (knows e (node_at c n).seen) (wiring c e w) _ (Kept c)
    (λ z. absurd (both_ways _ (unknown n) z))
    (λ u. frame c n nd inside (set c.ports e q) c.pending (length-set c.ports e q)
    (learning-holds e (node_at c n) u (nodes.each n)) (learning-known c n e port_in edges)
    (λ d i. at-set (Holds c.sizes (set c.nodes n nd) d) c.ports e d q no_port port_in
    (λ t. subst (λ k. Holds c.sizes (set c.nodes n nd) k q) (sym t) here)
    (λ ne. learning-edge c n e inside u d (port_at c d) (λ t. absurd (ne t))
    (edges.each d i, nodes.told d i))) (λ t. (t.few n, refl)) edges nodes)
  where
    nd : NodeState
    nd = learning e (node_at c n)

    q : PortState
    q = record (port_at c e) { wire = Some w }

    inside : n < length c.nodes
    inside = grind arith

    port_in : e < length c.ports
    port_in = grind arith

    old : EdgeHolds c.sizes c.nodes e (port_at c e)
    old = edges.each e port_in

    -- no node knows an edge without a wire
    unknown : (m : ℕ) → knows e (node_at c m).seen ≡ false
    unknown m = grind (arith, cases_Bool, both_ways, old)

    -- so each sees it with no flag, as it is
    flags : (m : ℕ) → flags_at e (node_of (set c.nodes n nd) m).seen ≡ (port_at c e).flags
    flags m = now-same c n nd inside (λ y. flags_at e y.seen)
        (flags-last e e (node_at c n).seen (unknown n)) m
        ∙ (flags-unknown e (node_at c m).seen (unknown m) ∙ sym (old.bare none).0)

    here : Holds c.sizes (set c.nodes n nd) e q
    here = (
      record {
        wired = record {
          sound = λ v z. subst (λ i. wire_ok c.sizes.nodes i ≡ true) (let t : w ≡ v = cc in t)
              (grind arith);
          fixed = λ l. let z = old.wired.fixed l in absurd (cc);
          placed = λ l v z. subst (λ i. may_wire c.sizes.reserves e i ≡ true)
              (let t : w ≡ v = cc in t) (grind arith);
        };
        content = record { chunks = old.content.chunks; has_data = old.content.has_data };
        bare = λ z. absurd (cc);
        sees = λ b v _. subst (Sees b (port_at c e).flags) (sym (flags (end_of b v)))
            (same-flags b (port_at c e).flags);
        learned = λ m. at-set (λ y. knows e y.seen ≡ true → names m (Some w) ≡ true) c.nodes n m nd
            no_node inside (λ t _. grind arith) (λ _ k. absurd (both_ways _ (unknown m) k));
      },
      λ b v _ l. absurd (both_ways _ (lacks-none b (port_at c e).flags)
          (subst (λ f. lacks b (port_at c e).flags f ≡ true) (flags (end_of b v)) l)),
    )

-- ---- the laws are kept

-- each kind of step keeps the laws of edges and of nodes, and those of tokens where they held
pub each_step_keeps : (c : CoreState) (n : ℕ) (s : Step) → may c n s ≡ true → Edges c → Nodes c
    → Kept c (after c n s)
each_step_keeps c n (step.Look e) g h k = look-kept c n e g h k
each_step_keeps c n (step.Want e) g h k = act-kept Want c n e g h k
each_step_keeps c n (step.Unwant e) g h k = act-kept Unwant c n e g h k
each_step_keeps c n (step.Push e x) g h k = act-kept (Push x) c n e g h k
each_step_keeps c n (step.Pull e) g h k = act-kept Pull c n e g h k
each_step_keeps c n (step.Finish e) g h k = act-kept Finish c n e g h k
each_step_keeps c n (step.ClosePort e) g h k = act-kept Close c n e g h k
each_step_keeps c n (step.Mark e) g h k = mark-kept c n e _ _ (grind arith) (grind arith)
    (marks-of c n e g h k) h k
each_step_keeps c n step.Begin g h k =
    taken-kept c n (spent (node_at c n).word) (grind arith) (grind arith)
    (grind arith) (grind arith) h k
each_step_keeps c n step.Again g h k = let x = held-word c n (grind arith) k in let y = x.0 in
    taken-kept c n 0 (grind arith) (omega arith) x.1 (omega (arith, y)) h k
each_step_keeps c n step.Rest g h k = rest-kept c n g h k
each_step_keeps c n step.Over g h k =
    left-kept c n (2 ^ 63) (grind arith) (grind arith) (grind arith)
    (grind arith) (word-one 63 false refl refl) refl (λ _ _ _ _ _. refl) h k
each_step_keeps c n step.TokenIn g h k = counted-kept c n ((node_at c n).tokens + 1) (c.pending + 1)
    (grind arith) (λ t. (grind arith, omega arith)) h k
each_step_keeps c n step.TokenOut g h k =
    counted-kept c n ((node_at c n).tokens - 1) (c.pending - 1)
    (grind arith) (λ t. let x = t.few n in let y : 0 < (node_at c n).tokens = grind arith in
    let p = some-pending c n (grind arith) y t in (omega (arith, x), omega (arith, p, y))) h k
each_step_keeps c n (step.Wire e w) g h k = cond_both (is_none (port_at c e).wire) _ c (Kept c)
    (λ q. wire-kept c n e w g (no-wire (port_at c e).wire q) h k) (λ _. same-kept c c.stopped h k)
each_step_keeps c n (step.Wired e) g h k = cond_both (names n (port_at c e).wire) _ c (Kept c)
    (λ q. wired-kept c n e g q h k) (λ _. same-kept c c.stopped h k)
each_step_keeps c n step.Birth g h k = born-kept c n (grind arith) (grind arith) (grind arith) h k
each_step_keeps c n step.Stop g h k = same-kept c true h k
each_step_keeps c n step.See g h k = same-kept c c.stopped h k

-- no step changes the sizes
pub sizes-kept : (c : CoreState) (n : ℕ) (s : Step) → (after c n s).sizes ≡ c.sizes
sizes-kept c n s = grind arith

-- all of them
pub laws-kept : (c : CoreState) (n : ℕ) (s : Step) → may c n s ≡ true → Laws c → Laws (after c n s)
laws-kept c n s g h = grind (arith, each_step_keeps c n s g h.edges h.nodes, sizes-kept c n s)

-- the pending number is at most three for each node
pub pending-most : (c : CoreState) → TokensHold c → c.pending ≤ length c.nodes * 3
pending-most c h = let z = sum_by-le weight 3 c.nodes (λ k d l.
    let x = h.few k in let y : counts (node_at c k).word ≤ 1 = grind arith in
    subst (λ nd. weight nd ≤ 3) (get_or_default c.nodes k no_node d l) (omega (arith, x, y))) in
    let p = h.pending in omega (arith, p, z)
