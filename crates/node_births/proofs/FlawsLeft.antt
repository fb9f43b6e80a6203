-- The flaw of a growth, by what its node knows, is that over the grown graph.
use Rattle.node_births.proofs.Imports.{AllByRecursion, AreNodesLeft, ArePeers, Birth, Blank, Bool, BoxPicture, GraphBefore, GrowthFlaw, GrowthForm, HasEdge, HasNewWire, HasPeer, Input, IsBorn, IsEnd, KeepsOwnFlaw, Kind, Left, List, NewEdge, NodeLeft, Output, Port, PortsHold, PortsPicture, Reserve, ReserveForm, Some, StandsAmong, Wire, [], ap, arith, births_of, blank_place, blanks_of, born_wires, both_ways, cases_Bool, count_by-none, edge_of, edges_flaw, end_of_view, eq-eqb, eqb-true, false, false_from_ne_true, flat_map, flaw_over, form_kind, get_or, get_or-append-add, get_or_append_left, grown_ranks, grown_wires, growth-flaw-is, growth_flaw, holds_node, inl, inr, is_blank_of, is_own_port, is_place, left_of, left_without, length, length-append, list_any, lt-ltb, map, ne_eqb, no_wire, or_cases, or_left, or_right, own_wires, peer, places_for, port_edge, rank_at, refl, reserve_before, reserve_of, subst, suc, sym, true, wire_at, wires_left, without_blank, ℕ, ⊎_elim, ◌++◌, ◌+◌, ◌<◌, ◌==◌, ◌||◌, ◌∙◌, ◌∷◌, ◌≡◌, ◌≢◌, ◌≤◌, ◌⊎◌}
use Rattle.node_births.proofs.BirthWires.{HasNone, IsUnwired, blank-none, flaw-by-peers, no-births, no-place, none-grown, ranks-kept, ranks-length, is-at}
use Rattle.node_births.proofs.BlankPlaces.{blanks-count, is-counted}
use Rattle.node_births.proofs.NodesLeft.{all, all-of, born-is, births-known, births-own, graph-is, grower-or-not, grower-out, stands-from, kind-is, known-of, wires-known}
use Rattle.node_births.proofs.OwnSound.{grower-below, own_births}
use Rattle.node_births.proofs.ReserveLaws.{held-below, held-blank, none-of-reserves, r_at, reserve-of}
use Rattle.node_births.proofs.SoundBirths.{IsOfReserve, blanks-left, holds-within, left-blanks, place-own, same-blanks}

-- ---- the wires at a node's ports

-- the wire at this place of a list is that of the port
pub record HasWireAt (wires : List Wire) (n : ℕ) (c : PortsPicture) (p : Port) (e : ℕ) : Type 0
  where
    pub has_edge : HasEdge wires n p e
    pub wire_is : (end_of_view c.node (edge_of c p)).wire ≡ Some (wire_at wires e)

-- the same wire, in another list
pub wire-at : (first : ℕ) (some all : List Wire) (n : ℕ) (c : PortsPicture) (p : Port)
    → c.node.number ≡ n → (x : HasNewWire first some c p) → (e : ℕ) → e < length all
    → wire_at all e ≡ wire_at some x.place → HasWireAt all n c p e
wire-at first some all n c p number x e lt same = grind (arith, x.has_edge.at_port, x.wire_is)

module _ (wires : List Wire) (first n : ℕ) (births : List Birth) (named reserve : ReserveForm)
    (c : PortsPicture) (box : BoxPicture)
    (s : StandsAmong wires first births n named c reserve box) where
  wire-of : (p : Port) → is_own_port c p → (e : ℕ) × HasWireAt (grown_wires wires births) n c p e
  unfolding wire_at
  wire-of p own = let more : List Wire = flat_map born_wires births in
      let len = length-append wires more in ⊎_elim (λ x. let lt = x.has_edge.in_range in (
        x.place,
        wire-at 0 wires (wires ++ more) n c p s.number x x.place (omega (arith, lt, len))
            (get_or_append_left wires more no_wire x.place lt),
      )) (λ x. let lt = x.has_edge.in_range in (
        length wires + x.place,
        wire-at first more (wires ++ more) n c p s.number x (length wires + x.place) (omega (
          arith,
          lt,
          len,
        )) (get_or-append-add wires more x.place no_wire),
      )) (s.wired.each p own)

  some-same : {A : Type 0} (x y : A) → Some x ≡ Some y → x ≡ y
  some-same x y e = cc

  other-end : (w : Wire) (p : Port) (m : ℕ) → IsEnd w m p → w.from ≢ w.to → peer w p ≢ m
  other-end w (Input i) m at apart e = apart (e ∙ sym at.0)
  other-end w (Output o) m at apart e = apart (at.0 ∙ sym e)

  -- the nodes at the other ends of the ports of a born node are its peers
  pub are-peers : PortsHold c → IsBorn box
      → ArePeers (grown_wires wires births) n c.sources c.targets
  are-peers holds born = grind (arith, peer-of, holds.peers.0, s.ins, holds.peers.1, s.outs)
    where
      peer-of : (p : Port) → is_own_port c p
          → HasPeer (grown_wires wires births) n p (port_edge c.sources c.targets p)
      peer-of p own = let x = wire-of p own in
          grind (arith, some-same, other-end, holds.known, x.0, x.1.wire_is, x.1.has_edge, s.number)

-- ---- places of a growth that isn't checked

-- where nothing is left, the flaw doesn't depend on the rank
rank-free : (a b past : ℕ) (wires : List Wire) (n : ℕ) (g : GrowthForm)
    → let none : Left = record { blanks = []; edges = 0 } in
    flaw_over a past wires none n g ≡ flaw_over b past wires none n g
rank-free a b past wires n g = grind (arith, by-edges g.edges, g.specs, g.edges)
  where
    by-edges : (edges : List NewEdge) → edges_flaw a 0 0 (length g.specs) g.ranks edges
        ≡ edges_flaw b 0 0 (length g.specs) g.ranks edges
    by-edges [] = refl
    by-edges (e ∷ edges) = rw (lt-ltb 0 (length (e ∷ edges)) (omega arith)) refl

blank-or-past : (k : Kind) (blanks : List Blank) (past m : ℕ) → blank_place k blanks past ≡ m
    → (list_any (λ (b : Blank). b.node == m) blanks ≡ true) ⊎ (past ≤ m)
blank-or-past k [] past m e = inr (omega (arith, e))
blank-or-past k (b ∷ blanks) past m e = elim (cases_Bool (is_blank_of k b)) [
  | inl on ↦ inl (or_left _ _ (eq-eqb b.node m (rw on at e)))
  | inr off ↦ ⊎_elim (λ there. inl (or_right _ _ there)) (λ le. inr le)
      (blank-or-past k blanks past m (rw off at e))
]

without-some : (k : Kind) (blanks : List Blank) (m : ℕ) → list_any (λ (b : Blank). b.node == m)
    (without_blank k blanks) ≡ true → list_any (λ (b : Blank). b.node == m) blanks ≡ true
without-some k [] m on = on
without-some k (b ∷ blanks) m on = elim (cases_Bool (is_blank_of k b)) [
  | inl is ↦ or_right _ _ (rw is at on)
  | inr other ↦ elim (or_cases (b.node == m) _ (rw other at on)) [
    | inl here ↦ or_left _ _ here
    | inr rest ↦ or_right _ _ (without-some k blanks m rest)
  ]
]

-- each place is that of a blank, or past all nodes
place-or-past : (ks : List Kind) (blanks : List Blank) (past m : ℕ)
    → list_any (λ (k : ℕ). k == m) (places_for ks blanks past) ≡ true
    → (list_any (λ (b : Blank). b.node == m) blanks ≡ true) ⊎ (past ≤ m)
place-or-past [] blanks past m on = absurd (cc)
place-or-past (k ∷ ks) blanks past m on = elim (or_cases (blank_place k blanks past == m) _ on) [
  | inl here ↦ blank-or-past k blanks past m (eqb-true (blank_place k blanks past) m here)
  | inr rest ↦
      grind (arith, without-some, place-or-past ks (without_blank k blanks) (suc past) m rest)
]

-- ---- the flaw

module _ {g : GraphBefore} {nodes : ℕ → NodeLeft} {after : List BoxPicture}
    (h : AreNodesLeft g nodes after) where
  -- a number past all nodes has no wire
  past-none : (m : ℕ) → length g.boxes ≤ m → (births : List Birth)
      → AllByRecursion (IsOfReserve h.before) births → HasNone (grown_wires g.wires births) m
  unfolding wire_at
  past-none m le births of = none-grown h.before m graph-none births of
      (no-births h.before m (λ k lt e.
      let below = grower-below h k lt in absurd (omega (arith, le, below, e))) births of)
      (no-place h.before m (λ k lt. false_from_ne_true _ (λ on.
      let below = held-below h.before m k lt on in absurd (omega (arith, le, below)))) births of)
    where
      graph-none : HasNone g.wires m
      graph-none = (
        count_by-none no_wire (λ w. w.to == m) g.wires (λ e lt. ne_eqb _ m (λ is.
            let edge = (h.before.graph.so_far.edges e lt).to_in_range in
            let same = h.before.one_each in absurd (omega (arith, edge, same, le, is)))),
        count_by-none no_wire (λ w. w.from == m) g.wires (λ e lt. ne_eqb _ m (λ is.
            let edge = (h.before.graph.so_far.edges e lt).from_in_range in
            let same = h.before.one_each in absurd (omega (arith, edge, same, le, is)))),
      )

  module _ (n : ℕ) (lb : n < length g.boxes) where
    abbrev known : List Birth
    known = (nodes n).births

    abbrev r : Reserve
    r = reserve_of g.reserves n

    abbrev left : Left
    left = left_without (reserve_before g n).left (births_of n known)

    -- a blank that is left has no wire, nor has a number past all nodes
    blank-unwired : (m : ℕ) → list_any (λ (b : Blank). b.node == m) left.blanks ≡ true
        → IsUnwired (grown_wires g.wires known) (wires_left g nodes) n m
    blank-unwired m on = let one = is-counted (λ (b : Blank). b.node == m) left.blanks on in
        let some = blanks-left (births_of n known) (reserve_before g n).left.blanks m in
        let within = (blanks-count g.boxes [] r.first_node r.nodes m).within
        (omega (arith, one, some.0)) in
        let free : is_place (births_of n known) m ≡ false = false_from_ne_true _ (λ is. absurd
        (omega (arith, one, some.1 is))) in elim (grower-or-not h n) [
          | inr other ↦ grind (arith, none-of-reserves g.reserves n other, g.reserves, within.1)
          | inl x ↦ let same : r ≡ r_at h.before x.0 = ap (reserve_of g.reserves) (sym x.2) ∙
              reserve-of h.before x.0 x.1 in
              let here : holds_node m (r_at h.before x.0) ≡ true = rw same at (holds-within
              r.first_node r.nodes m within.0 within.1) in
              let of-own : (births : List Birth) → AllByRecursion (IsOfReserve h.before) births →
              births_of n births ≡ births_of n known → is_place births m ≡ false = (λ births of e.
              sym (place-own h.before x.0 x.1 m here births of) ∙ ap (λ k. is_place (births_of k
              births) m) x.2 ∙ ap (λ l. is_place l m) e ∙ free) in record {
                other = λ e. both_ways _ (grower-out h n x.0 x.1 x.2 x.0 x.1) (rw e here);
                some_none = let of = known-of h n lb in
                    grind (arith, blank-none, h.before, x.0, x.1);
                all_none = let of = all-of h in
                    grind (arith, blank-none, births-known, h.before, x.0, x.1);
              }
        ]

    place-unwired : (ks : List Kind) (k : ℕ) → k < length (places_for ks left.blanks (length
        g.boxes)) → IsUnwired (grown_wires g.wires known) (wires_left g nodes) n (get_or (places_for
        ks left.blanks (length g.boxes)) k 0)
    place-unwired ks k lt = ⊎_elim (blank-unwired _) (λ le. record {
      other = λ e. omega (arith, lb, le, e);
      some_none = past-none _ le known (known-of h n lb);
      all_none = past-none _ le _ (all-of h);
    }) (place-or-past ks left.blanks (length g.boxes) _ (is-at _ _ lt))

    -- what is left of the reserve is what the boxes after all births leave
    blanks-same : blanks_of after [] r.first_node r.nodes ≡ left.blanks
    blanks-same = elim (grower-or-not h n) [
      | inr other ↦ rw (none-of-reserves g.reserves n other) refl
      | inl x ↦ let q : Reserve = r_at h.before x.0 in
          let same : r ≡ q = ap (reserve_of g.reserves) (sym x.2) ∙ reserve-of h.before x.0 x.1 in
          rw same (sym (left-blanks g.boxes (births_of n known) q.first_node q.nodes ∙ same-blanks
          g.boxes after (births_of n known) [] q.first_node q.nodes (λ i li.
          let m : ℕ = q.first_node + i in
          let here : holds_node m q ≡ true = holds-within q.first_node q.nodes m (omega arith)
          (omega (arith, li)) in let box = h.boxes m (held-below h.before m x.0 x.1 here) in
          let own : births_of n known ≡ own_births h x.0 = sym (births-known h n lb) ∙ ap (λ k.
          births_of k (all h)) (sym x.2) ∙ births-own h x.0 x.1 in (
            rw (own, held-blank h.before m x.0 x.1 here, box)
                (or-none _ ∙ sym (born-is h m x.0 x.1 here)),
            rw box (sym (kind-is h m x.0 x.1 here)),
          ))))
    ]
      where
        or-none : (t : Bool) → (t || false) ≡ t
        or-none true = refl
        or-none false = refl

    left-same : left_of g.reserves after (all h) n ≡ left
    left-same = rw (blanks-same, births-known h n lb) refl

    rank-same : (wires : List Wire) (growth : GrowthForm) → flaw_over (rank_at g.ranks n) (length
        g.boxes) wires left n growth ≡ flaw_over (rank_at (grown_ranks g.ranks (all h)) n) (length
        g.boxes) wires left n growth
    rank-same wires growth = elim (grower-or-not h n) [
      | inl x ↦ rw (ranks-kept g.ranks (all h) n (no-place h.before n
          (grower-out h n x.0 x.1 x.2) _ (all-of h))) refl
      | inr other ↦ let none : left ≡ (let l : Left = record { blanks = []; edges = 0 } in
          l) = grind (arith, none-of-reserves g.reserves n other, g.reserves) in
          let b : ℕ = rank_at (grown_ranks g.ranks (all h)) n in
          subst (λ l. flaw_over (rank_at g.ranks n) (length g.boxes) wires l n growth ≡ flaw_over b
          (length g.boxes) wires l n growth) (sym none) (rank-free (rank_at g.ranks n) b (length
          g.boxes) wires n growth)
    ]

    -- the flaw that the node found is that over the grown graph
    pub flaw-left : IsBorn (nodes n).box → (f : GrowthFlaw) (growth : GrowthForm) → KeepsOwnFlaw n f
        growth (nodes n) → growth_flaw (grown_ranks g.ranks (all h)) (wires_left g nodes) (left_of
        g.reserves after (all h) n) n growth ≡ Some f
    flaw-left born f growth k = let s = (stands-from h n lb).1 in let c = (nodes n).ports in
        let ranks : List ℕ = grown_ranks g.ranks (all h) in
        let wires : List Wire = wires_left g nodes in let counts = wires-known h n lb in
        let own = subst (λ (x : ReserveForm). flaw_over x.rank x.nodes (own_wires n c.sources
        c.targets) x.left n growth ≡ Some f) s.reserve_is k.flawed in
        let past : length ranks ≡ length g.boxes = ranks-length g.ranks (all h) ∙ sym
        h.before.one_each in
        subst (λ l. growth_flaw ranks wires l n growth ≡ Some f) (sym left-same) (growth-flaw-is
        ranks wires left n growth ∙ subst (λ x. flaw_over (rank_at ranks n) x wires left n growth ≡
        Some f) (sym past) (sym (rank-same wires growth) ∙ sym (flaw-by-peers _ _ (graph-is h) _ _ _
        _ (are-peers _ _ n known _ _ c _ s k.ports born) counts.0 counts.1 _ _ _ _ (λ i lt.
        place-unwired (map form_kind growth.specs) i lt)) ∙ own))
