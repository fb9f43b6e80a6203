-- The ports of edges on one side, where `node` and `port` tell at which node an edge is, and
-- at which port. Where no two edges are at one port, and each port below one in use is in use, the
-- ports of a node are numbered from 0 up to their count.
use Rattle.proc_api.proofs.Imports.{Any-from_list_any, ArePortsOnce, Bool, List, Wire, [], and_from, and_parts, arith, cases_Bool, cases_lt, cond_both, count_by, eq-eqb, eqb-true, false_from_ne_true, filter, get_or_default, le-length_from_below, length, length-filter, length-le_from_distinct_below, length-map, list_any, list_any_at, map, recursion_from_All, refl, subst, suc, sym, true, wire_at, ℕ, ◌&&◌, ◌<◌, ◌==◌, ◌∙◌, ◌∷◌, ◌≡◌, ◌≤◌}
use Rattle.std.specs.List.{IsDistinct}

module _ (node port : Wire → ℕ) where
  -- whether an edge is at the port of the node
  abbrev pub has_port : List Wire → (n k : ℕ) → Bool
  has_port wires n k = list_any (λ (w : Wire). (node w == n) && (port w == k)) wires

  -- how many edges are at the node
  abbrev pub port_count : List Wire → ℕ → ℕ
  port_count wires n = count_by (λ (w : Wire). node w == n) wires

  -- each port below that of an edge has an edge
  abbrev pub AreGapless : List Wire → Type 0
  AreGapless wires = (e k : ℕ) → e < length wires → k < port (wire_at wires e)
      → has_port wires (node (wire_at wires e)) k ≡ true

  pub edge-of : (wires : List Wire) (n k : ℕ) → has_port wires n k ≡ true
      → (e : ℕ) × (e < length wires) × (node (wire_at wires e) ≡ n) × (port (wire_at wires e) ≡ k)
  unfolding wire_at
  edge-of wires n k h =
      search (arith, Any-from_list_any, get_or_default, and_parts, eqb-true, node, port)

  pub port-of : (wires : List Wire) (e n k : ℕ) → e < length wires → node (wire_at wires e) ≡ n
      → port (wire_at wires e) ≡ k → has_port wires n k ≡ true
  unfolding wire_at
  port-of wires e n k lt at is = search (arith, list_any_at, node, port, and_from, eq-eqb)

  -- the edges at a node, and their ports
  abbrev edges_at : List Wire → ℕ → List Wire
  edges_at wires n = filter (λ (w : Wire). node w == n) wires

  abbrev ports : List Wire → ℕ → List ℕ
  ports wires n = map port (edges_at wires n)

  ports-count : (wires : List Wire) (n : ℕ) → length (ports wires n) ≡ port_count wires n
  ports-count wires n = rw length-map (length-filter (λ (w : Wire). node w == n) wires)

  ports-any : (wires : List Wire) (n k : ℕ)
      → list_any (λ j. k == j) (ports wires n) ≡ has_port wires n k
  ports-any [] n k = refl
  ports-any (w ∷ wires) n k = search (arith, node, port, ports-any wires n k)

  ports-distinct : (wires : List Wire) (n : ℕ) → ArePortsOnce node port wires
      → IsDistinct ◌==◌ (ports wires n)
  unfolding IsDistinct wire_at
  ports-distinct [] n once = tt
  ports-distinct (w ∷ wires) n once =
      let rest = ports-distinct wires n (λ e f le lf same. let s = once (suc e) (suc f)
      (omega (arith, le)) (omega (arith, lf)) same in omega (arith, s)) in
      cond_both (node w == n) (w ∷ edges_at wires n) (edges_at wires n)
      (λ l. IsDistinct ◌==◌ (map port l)) (λ e. (
        recursion_from_All _ (ports wires n) (λ i d lt.
            false_from_ne_true _ (λ t.
            let h = list_any_at (λ j. port w == j) (ports wires n) i d lt t in
            let a = edge-of wires n (port w) (sym (ports-any wires n (port w)) ∙ h) in
            let s = once 0 (suc a.0) (omega arith) (omega (arith, a.1))
            (eqb-true _ _ e ∙ sym a.2, sym a.3) in omega (arith, s))),
        rest,
      )) (λ e. rest)

  up-to-own : (wires : List Wire) → AreGapless wires → (e k : ℕ) → e < length wires
      → k ≤ port (wire_at wires e) → has_port wires (node (wire_at wires e)) k ≡ true
  up-to-own wires gapless e k lt le = grind (arith, cases_lt, port-of)

  pub port-below-count : (wires : List Wire) → AreGapless wires → (e : ℕ) → e < length wires
      → port (wire_at wires e) < port_count wires (node (wire_at wires e))
  port-below-count wires gapless e lt =
      let n : ℕ = node (wire_at wires e) in
      let long = le-length_from_below (ports wires n) (suc (port (wire_at wires e)))
      (λ k less. ports-any wires n k ∙ up-to-own wires gapless e k lt (omega (arith, less))) in
      omega (arith, ports-count wires n, long)

  -- where each port is below a limit, no more than the limit are at a node
  pub count-limit : (wires : List Wire) (limit : ℕ) → ArePortsOnce node port wires → (n : ℕ)
      → ((e : ℕ) → e < length wires → node (wire_at wires e) ≡ n → port (wire_at wires e) < limit)
      → port_count wires n ≤ limit
  count-limit wires limit once n under =
      let short = length-le_from_distinct_below (ports wires n) limit (ports-distinct wires n once)
      (λ k h. let a = edge-of wires n k (sym (ports-any wires n k) ∙ h) in
      subst (λ j. j < limit) a.3 (under a.0 a.1 a.2)) in
      omega (arith, ports-count wires n, short)

  -- each port below the count has an edge
  pub port-of-count : (wires : List Wire) → ArePortsOnce node port wires → AreGapless wires
      → (n k : ℕ) → k < port_count wires n → has_port wires n k ≡ true
  port-of-count wires once gapless n k lt =
      grind (arith, cases_Bool, cases_lt, count-limit wires k once n, up-to-own wires gapless)
