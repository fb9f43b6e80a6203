-- A graph with the nodes and wires of a growth that has no flaw is a graph.
use Rattle.exec_laws.proofs.Imports.{AreOnce, AreOnce-head, AreOnce-tail, Bool, HasInputWire, HasOutputWire, IsEdge, IsGraph, IsGraphSoFar, List, NewEdge, Who, Wire, [], and_parts, append-nil, append_assoc, arith, both_ways, cases_Bool, cases_eq, edge-added, end_node, eq-eqb, false, get_or, get_or-append_right, get_or-set_other, get_or-set_same, get_or_append_left, has_gap, has_large_port, has_wrong_end, inl, input-below-count, input-of-count, input_count, inr, is-gapless, is_gapless, is_named, is_out_of_order, is_port_taken, length, length-append, length-set, list_any, list_any_at, ltb-true, ne_eqb, new_wire, new_wires, no_wire, not, or_parts, or_right, output-below-count, output-of-count, output_count, rank_at, set, set_ranks, subst, suc, sym, true, wire-input, wire-output, wire_at, zero, ℕ, ◌++◌, ◌+◌, ◌<◌, ◌==◌, ◌∙◌, ◌∷◌, ◌≡◌, ◌≢◌, ◌≤◌}

-- ---- the ranks of new nodes

pub set_ranks-length : (ranks places new : List ℕ)
    → length (set_ranks ranks places new) ≡ length ranks
set_ranks-length ranks (p ∷ places) (r ∷ new) =
    set_ranks-length (set ranks p r) places new ∙ length-set ranks p r
set_ranks-length ranks places new = grind arith

abbrev Avoids : List ℕ → ℕ → Type 0
Avoids places n = (k : ℕ) → k < length places → get_or places k 0 ≢ n

avoids-rest : (p : ℕ) (places : List ℕ) (n : ℕ) → Avoids (p ∷ places) n → Avoids places n
avoids-rest p places n h k lt = h (suc k) (omega (arith, lt))

pub set_ranks-other : (ranks places new : List ℕ) (n : ℕ) → Avoids places n
    → rank_at (set_ranks ranks places new) n ≡ rank_at ranks n
unfolding rank_at
set_ranks-other ranks (p ∷ places) (r ∷ new) n h =
    let away : n ≢ p = (λ e. h 0 (omega arith) (sym e)) in
    set_ranks-other (set ranks p r) places new n (avoids-rest p places n h)
    ∙ get_or-set_other ranks p n r 0 away
set_ranks-other ranks places new n h = grind arith

pub set_ranks-at : (ranks places new : List ℕ) → AreOnce places
    → ((k : ℕ) → k < length places → get_or places k 0 < length ranks) → (k : ℕ) → k < length places
    → k < length new → rank_at (set_ranks ranks places new) (get_or places k 0) ≡ get_or new k 0
unfolding rank_at
set_ranks-at ranks (p ∷ places) (r ∷ new) once within zero lt ln =
    set_ranks-other (set ranks p r) places new p (AreOnce-head p places once)
    ∙ get_or-set_same ranks p r 0 (within 0 (omega arith))
set_ranks-at ranks (p ∷ places) (r ∷ new) once within (suc k) lt ln =
    set_ranks-at (set ranks p r) places new (AreOnce-tail p places once)
    (λ j lj. rw length-set (within (suc j) (omega (arith, lj)))) k (omega (arith, lt))
    (omega (arith, ln))
set_ranks-at ranks places new once within k lt ln = grind arith

-- ---- wires are added one after another

pub not-false : (b : Bool) → not b ≡ false → b ≡ true
not-false b h = grind arith

-- a growth of node n, with rank r, without a flaw of its edges
pub record IsFlawless (r : ℕ) (new : List ℕ) (wires : List Wire) (n count : ℕ) (places : List ℕ)
    (edges : List NewEdge) : Type 0 where
  pub ends : list_any (has_wrong_end count) edges ≡ false
  pub ranked : list_any (is_out_of_order r new) edges ≡ false
  pub small : list_any has_large_port edges ≡ false
  pub free : is_port_taken wires (new_wires n places edges) ≡ false

module _ (ranks : List ℕ) (r n count : ℕ) (new places : List ℕ) (lt : n < length ranks)
    (own : rank_at ranks n ≡ r) (within : (k : ℕ) → k < count → get_or places k 0 < length ranks)
    (at : (k : ℕ) → k < count → rank_at ranks (get_or places k 0) ≡ get_or new k 0) where
  end-there : (w : Who) → is_named count w ≡ true → end_node n places w < length ranks
  end-there w h = grind (arith, ltb-true)

  new-edge : (e : NewEdge) → has_wrong_end count e ≡ false → is_out_of_order r new e ≡ false
      → has_large_port e ≡ false → IsEdge ranks (new_wire n places e)
  new-edge e wrong order large = grind (arith, and_parts, not-false, or_parts, ltb-true, end-there)

  connected : (wires : List Wire) (edges : List NewEdge) → IsGraphSoFar ranks wires []
      → IsFlawless r new wires n count places edges → length wires + length edges ≤ 1024
      → IsGraphSoFar ranks (wires ++ new_wires n places edges) []
  connected wires [] g f few = rw append-nil g
  connected wires (e ∷ edges) g f few =
      let w : Wire = new_wire n places e in
      let ends = or_parts _ _ f.ends in
      let ranked = or_parts _ _ f.ranked in
      let small = or_parts _ _ f.small in
      let free = or_parts _ _ f.free in
      let ports = or_parts _ _ free.0 in
      let more : length (wires ++ w ∷ []) ≡ length wires + 1 = length-append wires (w ∷ []) in
      let next = edge-added ranks wires [] w g (new-edge e ends.0 ranked.0 small.0) ports.0 ports.1
      (omega (arith, few)) in
      rw (sym (append_assoc wires (w ∷ []) (new_wires n places edges)))
      (connected (wires ++ w ∷ []) edges next
      record { ends = ends.1; ranked = ranked.1; small = small.1; free = free.1 }
      (omega (arith, few, more)))

-- ---- no gap

-- a node at which no new wire ends or begins has no gap
module _ (ranks : List ℕ) (wires more : List Wire) (g : IsGraph ranks wires []) (m : ℕ)
    (away : (e : ℕ) → e < length more → ((get_or more e no_wire).from ≢ m)
    × ((get_or more e no_wire).to ≢ m)) where
  kept : (e : ℕ) → e < length wires → wire_at (wires ++ more) e ≡ wire_at wires e
  unfolding wire_at
  kept e lt = get_or_append_left wires more no_wire e lt

  longer : (e : ℕ) → e < length wires → e < length (wires ++ more)
  longer e lt = omega (arith, lt, length-append wires more)

  old-wire : (e : ℕ) → e < length (wires ++ more)
      → (((wire_at (wires ++ more) e).from ≡ m → e < length wires)
      × ((wire_at (wires ++ more) e).to ≡ m → e < length wires))
  unfolding wire_at
  old-wire e lt = grind (arith, get_or-append_right, length-append)

  pub gapless-kept : is_gapless (wires ++ more) m ≡ true
  gapless-kept = is-gapless (wires ++ more) m
      (λ e i lt to below.
      let less = (old-wire e lt).1 to in
      let w : Wire = wire_at wires e in
      let is : w.to ≡ m = rw (kept e less) at to in
      let under : i < w.input = rw (kept e less) at below in
      let count = input-below-count ranks wires [] g e less in
      let lower : i < input_count wires w.to = omega (arith, under, count) in
      let h : HasInputWire wires m i = input-of-count ranks wires [] g m i (rw is at lower) in
      wire-input (wires ++ more) h.edge m i (longer h.edge h.in_range)
      (rw (kept h.edge h.in_range) h.to) (rw (kept h.edge h.in_range) h.input_is))
      (λ e o lt from below.
      let less = (old-wire e lt).0 from in
      let w : Wire = wire_at wires e in
      let is : w.from ≡ m = rw (kept e less) at from in
      let under : o < w.out = rw (kept e less) at below in
      let count = output-below-count ranks wires [] g e less in
      let lower : o < output_count wires w.from = omega (arith, under, count) in
      let h : HasOutputWire wires m o = output-of-count ranks wires [] g m o (rw is at lower) in
      wire-output (wires ++ more) h.edge m o (longer h.edge h.in_range)
      (rw (kept h.edge h.in_range) h.from) (rw (kept h.edge h.in_range) h.out_is))

-- ---- the grown graph

module _ (ranks : List ℕ) (wires : List Wire) (g : IsGraph ranks wires []) (n : ℕ)
    (new places : List ℕ) (edges : List NewEdge) (lt : n < length ranks)
    (as_many : length new ≡ length places)
    (within : (k : ℕ) → k < length places → get_or places k 0 < length ranks)
    (once : AreOnce places)
    (other : Avoids places n)
    (unwired : (e : ℕ) → e < length wires → Avoids places (wire_at wires e).from
    × Avoids places (wire_at wires e).to)
    (f : IsFlawless (rank_at ranks n) new wires n (length places) places edges)
    (few : length wires + length edges ≤ 1024)
    (gaps : list_any (has_gap (wires ++ new_wires n places edges)) (n ∷ places) ≡ false) where
  abbrev grown : List ℕ
  grown = set_ranks ranks places new

  abbrev more : List Wire
  more = new_wires n places edges

  len : length grown ≡ length ranks
  len = set_ranks-length ranks places new

  before : IsGraphSoFar grown wires []
  before = record {
    few_nodes = rw len g.so_far.few_nodes;
    few_edges = g.so_far.few_edges;
    edges = λ e le.
        let old = g.so_far.edges e le in
        record {
          from_in_range = rw len old.from_in_range;
          to_in_range = rw len old.to_in_range;
          ranked = rw (
            set_ranks-other ranks places new _ (unwired e le).0,
            set_ranks-other ranks places new _ (unwired e le).1,
          ) old.ranked;
          few_inputs = old.few_inputs;
          few_outputs = old.few_outputs;
        };
    inputs_once = g.so_far.inputs_once;
    outputs_once = g.so_far.outputs_once;
  }

  so_far : IsGraphSoFar grown (wires ++ more) []
  so_far = grind (arith, connected, len, set_ranks-other, set_ranks-at, before)

  -- a node at which no new wire ends or begins, or one without a gap by the test
  at-place : (ms : List ℕ) (m : ℕ) → list_any (has_gap (wires ++ more)) ms ≡ false
      → list_any (λ k. k == m) ms ≡ true → is_gapless (wires ++ more) m ≡ true
  at-place [] m none there = absurd (cc)
  at-place (k ∷ ms) m none there =
      let both = or_parts _ _ none in
      elim (cases_eq k m) [
        | inl e ↦
            let free = not-false (is_gapless (wires ++ more) k) both.0 in rw e at free
        | inr ne ↦ at-place ms m both.1 (rw (ne_eqb k m ne) at there)
      ]

  -- each end of a new wire is n or a place
  end-listed : (w : Who) → is_named (length places) w ≡ true
      → list_any (λ k. k == end_node n places w) (n ∷ places) ≡ true
  end-listed w h = grind (arith, eq-eqb, or_right, list_any_at, ltb-true)

  ends-listed : (es : List NewEdge) → list_any (has_wrong_end (length places)) es ≡ false
      → (e : ℕ) → e < length (new_wires n places es) → (m : ℕ)
      → list_any (λ k. k == m) (n ∷ places) ≡ false
      → ((get_or (new_wires n places es) e no_wire).from ≢ m)
      × ((get_or (new_wires n places es) e no_wire).to ≢ m)
  ends-listed [] h e le m none = absurd (omega (arith, le))
  ends-listed (x ∷ es) h zero le m none =
      let named = and_parts _ _ (not-false _ (or_parts _ _ (or_parts _ _ h).0).0) in (
        λ at. both_ways _ none (subst (λ j. list_any (λ k. k == j) (n ∷ places) ≡ true) at
            (end-listed x.from.who named.0)),
        λ at. both_ways _ none (subst (λ j. list_any (λ k. k == j) (n ∷ places) ≡ true) at
            (end-listed x.to.who named.1)),
      )
  ends-listed (x ∷ es) h (suc e) le m none =
      ends-listed es (or_parts _ _ h).1 e (omega (arith, le)) m none

  pub graph-grown : IsGraph grown (wires ++ more) []
  graph-grown = record {
    so_far = so_far;
    gapless = λ m lm. elim (cases_Bool (list_any (λ k. k == m) (n ∷ places))) [
      | inl there ↦ at-place (n ∷ places) m gaps there
      | inr none ↦ gapless-kept ranks wires more g m (λ e le. ends-listed edges f.ends e le m none)
    ];
  }
