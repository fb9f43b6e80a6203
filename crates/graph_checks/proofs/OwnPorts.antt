-- The wires that a node knows of take the same ports of it as all wires of a graph do, and neither
-- take ports of a node at which there is no edge.
use Rattle.graph_checks.proofs.Imports.{Bool, IsGraph, List, Reserve, TakeSamePorts, Wire, [], and_from, and_parts, ap, arith, both_ways, cases_Bool, edge-of, eq-eqb, eqb-true, false, has_input, has_output, has_port, inl, input-below-count, input-of-count, input_count, inr, length, list_any-append, ne_eqb, or_cases, or_left, or_right, output-below-count, output-of-count, output_count, own_wire, own_wires, refl, suc, sym, true, wire-input, wire-output, wire_at, wires_for, ℕ, ◌+◌, ◌<◌, ◌==◌, ◌||◌, ◌∙◌, ◌∷◌, ◌≡◌, ◌≢◌, ◌≤◌}
use Rattle.graph_checks.proofs.SamePorts.{AreAll}

-- ---- wires that are made for peers

module _ (node port : Wire → ℕ) (make : ℕ → ℕ → Wire) (ports : (m k : ℕ) → port (make m k) ≡ k)
  where
    -- each port from the first one on is taken
    made-used : (n : ℕ) → ((m k : ℕ) → node (make m k) ≡ n) → (peers : List ℕ) (i k : ℕ) → i ≤ k
        → k < i + length peers → has_port node port (wires_for make i peers) n k ≡ true
    made-used n at [] i k le lt = absurd (omega (arith, le, lt))
    made-used n at (m ∷ peers) i k le lt = elim (cases_Bool (i == k)) [
      | inl here ↦ or_left _ _ (and_from _ _ (eq-eqb (node (make m i)) n (at m i))
          (eq-eqb (port (make m i)) k (ports m i ∙ eqb-true i k here)))
      | inr other ↦ or_right _ _ (made-used n at peers (suc i) k
          (let ne = differ i k other in omega (arith, le, ne)) (omega (arith, lt)))
    ]
      where
        differ : (i k : ℕ) → (i == k) ≡ false → i ≢ k
        differ i k h e = both_ways _ h (eq-eqb i k e)

    -- and none behind the last
    made-below : (n : ℕ) (peers : List ℕ) (i k : ℕ)
        → has_port node port (wires_for make i peers) n k ≡ true → k < i + length peers
    made-below n [] i k h = absurd (cc)
    made-below n (m ∷ peers) i k h = elim (or_cases _ _ h) [
      | inl here ↦ let p = and_parts (node (make m i) == n) (port (make m i) == k) here in
          let same = ports m i in let e = eqb-true (port (make m i)) k p.1 in
          omega (arith, same, e)
      | inr later ↦ let lt = made-below n peers (suc i) k later in omega (arith, lt)
    ]

module _ (node port : Wire → ℕ) (make : ℕ → ℕ → Wire) where
  -- none is taken of a node at which no wire is made
  made-none : (n : ℕ) (peers : List ℕ) (i k : ℕ)
      → AreAll (λ m. (j : ℕ) → node (make m j) ≢ n) peers
      → has_port node port (wires_for make i peers) n k ≡ false
  made-none n [] i k h = refl
  made-none n (m ∷ peers) i k h =
      rw (ne_eqb (node (make m i)) n (h.0 i), made-none n peers (suc i) k h.1) refl

-- ---- the wires that a node knows of

same-truth : (a b : Bool) → (a ≡ true → b ≡ true) → (b ≡ true → a ≡ true) → a ≡ b
same-truth true b to back = sym (to refl)
same-truth false true to back = back refl
same-truth false false to back = refl

-- one side of the own wires, by the other side, which has no port there
one-side : (a b c : Bool) → a ≡ (b || c) → c ≡ false → a ≡ b
one-side a true c e none = e
one-side a false c e none = e ∙ none

other-side : (a b c : Bool) → a ≡ (b || c) → b ≡ false → a ≡ c
other-side a b c e none = e ∙ ap (λ t. t || c) none

module _ (n : ℕ) (sources targets : List ℕ) where
  abbrev own : List Wire
  own = own_wires n sources targets

  abbrev ins : List Wire
  ins = wires_for (own_wire true n) 0 sources

  abbrev outs : List Wire
  outs = wires_for (own_wire false n) 0 targets

  -- of a node with so many inputs and outputs in a graph they take each port that has an edge
  module _ (ranks : List ℕ) (wires : List Wire) (reserves : List Reserve)
      (g : IsGraph ranks wires reserves) (inputs : length sources ≡ input_count wires n)
      (outputs : length targets ≡ output_count wires n) (sources_else : AreAll (λ m. m ≢ n) sources)
      (targets_else : AreAll (λ m. m ≢ n) targets) where
    own-input : (k : ℕ) → has_input own n k ≡ has_input ins n k
    own-input k = one-side _ _ _ (list_any-append _ ins outs)
        (made-none (λ w. w.to) (λ w. w.input) (own_wire false n) n targets 0 k
        (each-port targets targets_else))
      where
        each-port : (peers : List ℕ) → AreAll (λ m. m ≢ n) peers
            → AreAll (λ m. (j : ℕ) → (own_wire false n m j).to ≢ n) peers
        each-port [] h = tt
        each-port (m ∷ peers) h = ((λ j. h.0), each-port peers h.1)

    own-output : (k : ℕ) → has_output own n k ≡ has_output outs n k
    own-output k = other-side _ _ _ (list_any-append _ ins outs)
        (made-none (λ w. w.from) (λ w. w.out) (own_wire true n) n sources 0 k
        (each-port sources sources_else))
      where
        each-port : (peers : List ℕ) → AreAll (λ m. m ≢ n) peers
            → AreAll (λ m. (j : ℕ) → (own_wire true n m j).from ≢ n) peers
        each-port [] h = tt
        each-port (m ∷ peers) h = ((λ j. h.0), each-port peers h.1)

    input-used : (k : ℕ) → has_input wires n k ≡ true → k < length sources
    input-used k h =
        let e = edge-of (λ w. w.to) (λ w. w.input) wires n k h in
        let lt = input-below-count ranks wires reserves g e.0 e.1 in
        let at : input_count wires (wire_at wires e.0).to ≡ input_count wires n =
        ap (input_count wires) e.2 in
        let is = e.3 in omega (arith, lt, at, is, inputs)

    output-used : (k : ℕ) → has_output wires n k ≡ true → k < length targets
    output-used k h =
        let e = edge-of (λ w. w.from) (λ w. w.out) wires n k h in
        let lt = output-below-count ranks wires reserves g e.0 e.1 in
        let at : output_count wires (wire_at wires e.0).from ≡ output_count wires n =
        ap (output_count wires) e.2 in
        let is = e.3 in omega (arith, lt, at, is, outputs)

    input-there : (k : ℕ) → k < length sources → has_input wires n k ≡ true
    input-there k lt =
        let w = input-of-count ranks wires reserves g n k (omega (arith, lt, inputs)) in
        wire-input wires w.edge n k w.in_range w.to w.input_is

    output-there : (k : ℕ) → k < length targets → has_output wires n k ≡ true
    output-there k lt =
        let w = output-of-count ranks wires reserves g n k (omega (arith, lt, outputs)) in
        wire-output wires w.edge n k w.in_range w.from w.out_is

    pub own-take-same : TakeSamePorts own wires n
    own-take-same = record {
      inputs = λ k. own-input k ∙ same-truth _ _
          (λ h. let lt = made-below (λ w. w.to) (λ w. w.input) (own_wire true n) (λ m j. refl) n
          sources 0 k h in input-there k (omega (arith, lt)))
          (λ h. let lt = input-used k h in made-used (λ w. w.to) (λ w. w.input) (own_wire true n)
          (λ m j. refl) n (λ m j. refl) sources 0 k (omega arith) (omega (arith, lt)));
      outputs = λ k. own-output k ∙ same-truth _ _
          (λ h. let lt = made-below (λ w. w.from) (λ w. w.out) (own_wire false n) (λ m j. refl) n
          targets 0 k h in output-there k (omega (arith, lt)))
          (λ h. let lt = output-used k h in made-used (λ w. w.from) (λ w. w.out)
          (own_wire false n) (λ m j. refl) n (λ m j. refl) targets 0 k (omega arith)
          (omega (arith, lt)));
    }

  -- of another node that is none of those at the other ends they take no port
  own-take-none : (m : ℕ) → n ≢ m → AreAll (λ x. x ≢ m) sources → AreAll (λ x. x ≢ m) targets
      → (k : ℕ) → (has_input own m k ≡ false) × (has_output own m k ≡ false)
  own-take-none m other none_in none_out k = (
    other-side _ _ _ (list_any-append _ ins outs)
        (made-none (λ w. w.to) (λ w. w.input) (own_wire true n) m sources 0 k
        (each-here sources)) ∙ made-none (λ w. w.to) (λ w. w.input) (own_wire false n) m targets 0 k
        (each-there targets none_out),
    other-side _ _ _ (list_any-append _ ins outs)
        (made-none (λ w. w.from) (λ w. w.out) (own_wire true n) m sources 0 k
        (each-from sources none_in)) ∙ made-none (λ w. w.from) (λ w. w.out) (own_wire false n) m
        targets 0 k (each-own targets),
  )
    where
      each-here : (peers : List ℕ) → AreAll (λ x. (j : ℕ) → (own_wire true n x j).to ≢ m) peers
      each-here [] = tt
      each-here (x ∷ peers) = ((λ j. other), each-here peers)

      each-own : (peers : List ℕ) → AreAll (λ x. (j : ℕ) → (own_wire false n x j).from ≢ m) peers
      each-own [] = tt
      each-own (x ∷ peers) = ((λ j. other), each-own peers)

      each-there : (peers : List ℕ) → AreAll (λ x. x ≢ m) peers
          → AreAll (λ x. (j : ℕ) → (own_wire false n x j).to ≢ m) peers
      each-there [] h = tt
      each-there (x ∷ peers) h = ((λ j. h.0), each-there peers h.1)

      each-from : (peers : List ℕ) → AreAll (λ x. x ≢ m) peers
          → AreAll (λ x. (j : ℕ) → (own_wire true n x j).from ≢ m) peers
      each-from [] h = tt
      each-from (x ∷ peers) h = ((λ j. h.0), each-from peers h.1)

  -- nor do the wires of a graph where no edge ends or begins at that node
  pub own-take-same-of-none : (wires : List Wire) (m : ℕ) → n ≢ m → AreAll (λ x. x ≢ m) sources
      → AreAll (λ x. x ≢ m) targets → ((k : ℕ) → (has_input wires m k ≡ false)
      × (has_output wires m k ≡ false)) → TakeSamePorts own wires m
  own-take-same-of-none wires m other none_in none_out none = record {
    inputs = λ k. (own-take-none m other none_in none_out k).0 ∙ sym (none k).0;
    outputs = λ k. (own-take-none m other none_in none_out k).1 ∙ sym (none k).1;
  }
