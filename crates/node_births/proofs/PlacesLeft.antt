-- The ports of each born node are those of the wires that end at it in the grown graph.
use Rattle.node_births.proofs.Imports.{AreNodesLeft, Birth, BoxPicture, GraphBefore, HasEdge, HasNewWire, HasPortPlaces, Input, IsBorn, List, NodeLeft, Output, Port, Reserve, Wire, [], all_births, ap, append-nil, arith, born_edges, born_wires, both_ways, cases_Bool, cases_lt, edge_of, flat_map, flat_map-append, get_or, get_or-append-add, get_or-append_seam, get_or-flat_map, get_or-range_with_len, get_or_append_left, inl, inr, is_own_port, is_place, is_some, length, length-append, length-flat_map-take, length-range_with_len, no_reserve, no_wire, port_edge, range_with_len, refl, reserve_at, suc, sym, table_edges, take, wire_at, wires_left, zero, ℕ, ⊎_elim, ◌++◌, ◌+◌, ◌<◌, ◌∙◌, ◌∷◌, ◌≡◌, ◌≤◌}
use Rattle.node_births.proofs.BirthWires.{HasNone, blank-none, none-ends, ranks-length}
use Rattle.node_births.proofs.FlawsLeft.{HasWireAt, wire-at}
use Rattle.node_births.proofs.NodesLeft.{Standing, all-of, born-is, born-still, held-by, graph-is, grower-out, place-is, standing, stands-from, wires-known}
use Rattle.node_births.proofs.OwnSound.{births_at, own_births, wires-count}
use Rattle.node_births.proofs.ReserveLaws.{r_at}

-- ---- numbers that are chosen one after another

record AreChosen (P : ℕ → ℕ → Type 0) (count : ℕ) : Type 0 where
  pub numbers : List ℕ
  pub len : length numbers ≡ count
  pub each : (i : ℕ) → i < count → P i (get_or numbers i 0)

choose : (P : ℕ → ℕ → Type 0) (count : ℕ) → ((i : ℕ) → i < count → (e : ℕ) × P i e)
    → AreChosen P count
choose P zero f = record { numbers = []; len = refl; each = λ i lt. absurd (omega (arith, lt)) }
choose P (suc count) f = let rest = choose P count (λ i lt. f i (omega (arith, lt))) in
    let last = f count (omega arith) in record {
      numbers = rest.numbers ++ last.0 ∷ [];
      len = omega (arith, rest.len, length-append rest.numbers (last.0 ∷ []));
      each = λ i lt. elim (cases_lt i count) [
        | inl less ↦ rw (get_or_append_left rest.numbers (last.0 ∷ []) 0 i (omega (
          arith,
          less,
          rest.len,
        ))) (rest.each i less)
        | inr le ↦ let same : length rest.numbers ≡ i = omega (arith, lt, le, rest.len) in
            let here : count ≡ i = omega (arith, lt, le) in
            grind (arith, get_or-append_seam, rest.numbers, last.0, last.1)
      ];
    }

-- ---- the wires of one reserve among those of all

module _ (f : Reserve → List Birth) where
  abbrev wires_by : Reserve → List Wire
  wires_by r = flat_map born_wires (f r)

  abbrev edges_by : Reserve → List ℕ
  edges_by r = range_with_len r.first_edge (born_edges (f r))

  wires-by : (rs : List Reserve) → flat_map born_wires (flat_map f rs) ≡ flat_map wires_by rs
  wires-by [] = refl
  wires-by (r ∷ rs) = grind (arith, flat_map-append, wires-by rs)

  as-long : (rs : List Reserve) → length (flat_map edges_by rs) ≡ length (flat_map wires_by rs)
  as-long [] = refl
  as-long (r ∷ rs) = grind (arith, length-append, length-range_with_len, wires-count, as-long rs)

  -- where they begin
  record BeginsAt (rs : List Reserve) (r : Reserve) (offset : ℕ) : Type 0 where
    pub in_range : offset + length (wires_by r) ≤ length (flat_map born_wires (flat_map f rs))
    pub wire : (i : ℕ) → i < length (wires_by r) → get_or (flat_map born_wires (flat_map f rs))
        (offset + i) no_wire ≡ get_or (wires_by r) i no_wire
    pub edge : (i : ℕ) → i < length (wires_by r)
        → get_or (flat_map edges_by rs) (offset + i) 0 ≡ r.first_edge + i

  begins-at : (rs : List Reserve) (k : ℕ) → k < length rs → BeginsAt rs (reserve_at rs k)
      (length (flat_map wires_by (take k rs)))
  unfolding reserve_at
  begins-at rs k lt = record {
    in_range = rw (wires-by rs) (length-flat_map-take wires_by rs k no_reserve lt);
    wire = λ i li. rw (wires-by rs) (get_or-flat_map wires_by rs k i no_reserve no_wire lt li);
    edge = λ i li. let less : i < born_edges (f (get_or rs k no_reserve)) =
        omega (arith, li, wires-count (f (get_or rs k no_reserve))) in
        rw (sym (as-long (take k rs))) (get_or-flat_map edges_by rs k i no_reserve 0 lt (rw
        length-range_with_len less) ∙ get_or-range_with_len _ (born_edges (f (get_or rs k
        no_reserve))) i 0 less);
  }

module _ {g : GraphBefore} {nodes : ℕ → NodeLeft} {after : List BoxPicture}
    (h : AreNodesLeft g nodes after) where
  no-edge : (wires : List Wire) (m e : ℕ) (p : Port) → HasNone wires m → HasEdge wires m p e → ⊥
  no-edge wires m e (Input i) none x = (none-ends wires m none e x.in_range).1 x.at_port.0
  no-edge wires m e (Output o) none x = (none-ends wires m none e x.in_range).0 x.at_port.0

  end-below : (e n : ℕ) (p : Port) → HasEdge (wires_left g nodes) n p e → n < length g.boxes
  end-below e n (Input i) x = let lt = ((graph-is h).so_far.edges e x.in_range).to_in_range in
      grind (arith, ranks-length, lt, g.ranks, x.at_port.0, h.before.one_each)
  end-below e n (Output o) x = let lt = ((graph-is h).so_far.edges e x.in_range).from_in_range in
      grind (arith, ranks-length, lt, g.ranks, x.at_port.0, h.before.one_each)

  -- each end of a wire is a born node
  pub ends-born : (e n : ℕ) (p : Port) → HasEdge (wires_left g nodes) n p e → IsBorn (nodes n).box
  ends-born e n p x = let lb = end-below e n p x in elim (standing h n) [
    | Standing.growing k lt is ↦ born-still h n lb (grower-out h n k lt is)
    | Standing.alone out ↦ born-still h n lb (λ k lt. (out k lt).1)
    | Standing.held k lt here ↦ elim (cases_Bool (is_place (all_births g nodes) n)) [
      | inl on ↦ born-is h n k lt here ∙ sym (place-is h n k lt here) ∙ on
      | inr off ↦ absurd (no-edge (wires_left g nodes) n e p (blank-none h.before n k lt here
          (all_births g nodes) (all-of h) off) x)
    ]
  ]

  -- ---- the place of a port's wire

  record HasPlaceAt (n : ℕ) (p : Port) (e : ℕ) : Type 0 where
    pub wire : HasWireAt (wires_left g nodes) n (nodes n).ports p e
    pub edge_is : edge_of (nodes n).ports p ≡ get_or (table_edges g nodes) e 0

  module _ (n : ℕ) (p : Port) (number : (nodes n).ports.node.number ≡ n) where
    abbrev new : List Wire
    new = flat_map born_wires (all_births g nodes)

    abbrev range : List ℕ
    range = range_with_len 0 (length g.wires)

    abbrev edges : List ℕ
    edges = flat_map (edges_by (births_at h)) g.reserves

    -- a wire of the graph
    of-graph : HasNewWire 0 g.wires (nodes n).ports p → (e : ℕ) × HasPlaceAt n p e
    unfolding wire_at
    of-graph x = let lt = x.has_edge.in_range in (
      x.place,
      record {
        wire = wire-at _ _ _ _ _ _ number x _ (omega (arith, lt, length-append g.wires new))
            (get_or_append_left g.wires new no_wire x.place lt);
        edge_is = x.edge_is ∙ sym (get_or_append_left range edges 0 x.place (omega (
          arith,
          lt,
          length-range_with_len 0 (length g.wires),
        )) ∙ get_or-range_with_len 0 (length g.wires) x.place 0 lt);
      },
    )

    -- a wire of the first births of a reserve
    of-births : (k : ℕ) → k < length g.reserves → (known later : List Birth) → own_births h k ≡
        known ++ later → HasNewWire (r_at h.before k).first_edge (flat_map born_wires known) (nodes
        n).ports p → (e : ℕ) × HasPlaceAt n p e
    unfolding wire_at
    of-births k lk known later split x = let b = begins-at (births_at h) g.reserves k lk in
        let o : ℕ = length (flat_map (wires_by (births_at h)) (take k g.reserves)) + x.place in
        let first : List Wire = flat_map born_wires known in
        let rest : List Wire = flat_map born_wires later in
        let own : flat_map born_wires (own_births h k) ≡ first ++ rest = ap (flat_map born_wires)
        split ∙ flat_map-append born_wires known later in
        let less : x.place < length (flat_map born_wires (own_births h k)) =
        (omega (arith, x.has_edge.in_range, length-append first rest, ap length own)) in (
          length g.wires + o,
          record {
            wire = wire-at _ _ _ _ _ _ number x _
                (omega (arith, length-append g.wires new, b.in_range, less)) (get_or-append-add
                g.wires new o no_wire ∙ b.wire x.place less ∙ ap (λ l. get_or l x.place no_wire) own
                ∙ get_or_append_left first rest no_wire x.place x.has_edge.in_range);
            edge_is = x.edge_is ∙ sym (b.edge x.place less) ∙ sym (get_or-append-add range edges o
                0) ∙ ap (λ l. get_or (range ++ edges) (l + o) 0) (length-range_with_len 0 (length
                g.wires));
          },
        )

  place-at : (n : ℕ) → n < length g.boxes → (p : Port) → is_own_port (nodes n).ports p
      → (e : ℕ) × HasPlaceAt n p e
  place-at n lb p own = elim (standing h n) [
    | Standing.growing k lt is ↦ let s = ((h.each n lb).grows k lt is).stands in
        ⊎_elim (of-graph n p s.number) (of-births n p s.number k lt (nodes n).births []
        (ap (λ m. (nodes m).births) is ∙ sym (append-nil (nodes n).births))) (s.wired.each p own)
    | Standing.held k lt here ↦ let x = held-by h n k lt here in
        ⊎_elim (of-graph n p x.stands.number) (of-births n p x.stands.number k lt (nodes n).births
        x.first.later x.first.all) (x.stands.wired.each p own)
    | Standing.alone out ↦ grind (arith, of-graph, h.each)
  ]

  born-places : (n : ℕ) → n < length g.boxes → IsBorn (nodes n).box → HasPortPlaces g nodes n
  born-places n lb born = let s = (stands-from h n lb).1 in let counts = wires-known h n lb in
      let ins = choose (λ i e. HasPlaceAt n (Input i) e) (length (nodes n).ports.inputs) (λ i lt.
      place-at n lb (Input i) lt) in
      let outs = choose (λ o e. HasPlaceAt n (Output o) e) (length (nodes n).ports.outputs) (λ o lt.
      place-at n lb (Output o) lt) in
      let at : (p : Port) → is_own_port (nodes n).ports p → HasPlaceAt n p (port_edge ins.numbers
      outs.numbers p) = place-of n ins.numbers outs.numbers ins.each outs.each in record {
        inputs = ins.numbers;
        outputs = outs.numbers;
        are = λ _ _. record {
          numbers = grind (arith, ins.len, s.ins, counts.0, outs.len, s.outs, counts.1);
          ins = sym ins.len;
          outs = sym outs.len;
          edge_is = λ p own. (at p own).edge_is;
          wire_is = λ p own. (at p own).wire.wire_is;
        };
      }
    where
      place-of : (n : ℕ) (inputs outputs : List ℕ) → ((i : ℕ) → i < length (nodes n).ports.inputs →
          HasPlaceAt n (Input i) (get_or inputs i 0)) → ((o : ℕ) → o < length (nodes
          n).ports.outputs → HasPlaceAt n (Output o) (get_or outputs o 0)) → (p : Port) →
          is_own_port (nodes n).ports p → HasPlaceAt n p (port_edge inputs outputs p)
      place-of n inputs outputs ins outs (Input i) lt = ins i lt
      place-of n inputs outputs ins outs (Output o) lt = outs o lt

  -- the ports of each born node have their places in the grown graph
  pub places-left : (n : ℕ) → HasPortPlaces g nodes n
  places-left n = elim (cases_lt n (length g.boxes)) [
    | inl lb ↦ elim (cases_Bool (is_some (nodes n).box.spec)) [
      | inl born ↦ born-places n lb born
      | inr off ↦ grind (arith, both_ways, off)
    ]
    | inr le ↦ record { inputs = []; outputs = []; are = λ lt _. absurd (omega (arith, le, lt)) }
  ]
