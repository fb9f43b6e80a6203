-- What is reserved stays apart as nodes, edges and reserves are added, and as a graph is finished.
use Rattle.proc_api.proofs.Imports.{nat_le, le-leb, le-ltb, lt-leb, lt-ltb, get_or-append_right, list_any-append, sum_by_push, IsBlank, IsFresh, AreReserves, AreStarting, IsAdded, behind_wires, holds_node, is_reserved, no_reserve, All, BoxPicture, IsGraphSoFar, List, Reserve, Wire, [], ap, arith, cases_lt, false, get_or, get_or-map, get_or_append_left, length, length-append, length-map, map, map-append, no_box, no_wire, refl, reserved_edges, suc, sum_by-cons, true, wire_at, ℕ, ◌&&◌, ◌++◌, ◌+◌, ◌-◌, ◌<◌, ◌||◌, ◌∙◌, ◌∷◌, ◌≡◌, ◌≢◌, ◌≤◌}
use Rattle.proc_api.proofs.Graphs.{at-seam, edge-kept}
unfoldable use Rattle.proc_api.specs.Reserves.{reserve_at}

-- ---- nodes that no reserve holds

before : (n : ℕ) (r : Reserve) → n < r.first_node → holds_node n r ≡ false
before n r lt = let off : nat_le r.first_node n ≡ false = lt-leb r.first_node n lt in rw off refl

not-with-one : (n : ℕ) (rs : List Reserve) (r : Reserve) → n < r.first_node
    → is_reserved (rs ++ r ∷ []) n ≡ is_reserved rs n
not-with-one n rs r lt = grind (arith, list_any-append, lt-leb)

with-one : (n : ℕ) (rs : List Reserve) (r : Reserve) → r.first_node ≤ n
    → n < r.first_node + r.nodes → is_reserved (rs ++ r ∷ []) n ≡ true
with-one n rs r low high = grind (arith, list_any-append, le-leb, lt-ltb)

-- a node behind all others isn't reserved
pub none-behind : (nodes n : ℕ) (rs : List Reserve) → nodes ≤ n
    → ((k : ℕ) → k < length rs → (reserve_at rs k).first_node + (reserve_at rs k).nodes ≤ nodes)
    → is_reserved rs n ≡ false
unfolding reserve_at
none-behind nodes n [] le within = refl
none-behind nodes n (r ∷ rs) le within =
    grind (
      arith,
      within 0,
      le-ltb,
      none-behind nodes n rs le (λ k lt. within (suc k) (omega (arith, lt))),
    )

-- ---- a node, an edge or a reserve more

module _ (nodes base : ℕ) (wires : List Wire) (rs : List Reserve)
    (h : AreReserves nodes base wires rs) where
  -- a node is added
  pub reserves-node : (more : ℕ) → nodes ≤ more → AreReserves more base wires rs
  reserves-node more up = grind arith

  -- an edge is added between two nodes that no reserve holds
  pub reserves-edge : (w : Wire) → IsAdded nodes rs w.from → IsAdded nodes rs w.to
      → AreReserves nodes base (wires ++ w ∷ []) rs
  unfolding wire_at
  reserves-edge w from to = grind (arith, at-seam no_wire wires w)

  -- nodes behind all others and edges behind those reserved so far are kept for one that no reserve
  -- holds, and that has none
  module _ (r : Reserve) (own : IsAdded nodes rs r.node)
      (new : (k : ℕ) → k < length rs → (reserve_at rs k).node ≢ r.node)
      (first : r.first_node ≡ nodes) (first_edge : r.first_edge ≡ base + reserved_edges rs) where
    kept : (n : ℕ) → IsAdded nodes rs n → IsAdded (nodes + r.nodes) (rs ++ r ∷ []) n
    kept n a = search (arith, not-with-one, first)

    abbrev edges : reserved_edges (rs ++ r ∷ []) ≡ reserved_edges rs + r.edges
    edges = sum_by_push (λ (q : Reserve). q.edges) rs r

    pub reserve-added : AreReserves (nodes + r.nodes) base wires (rs ++ r ∷ [])
    unfolding reserve_at
    reserve-added = grind (arith, at-seam no_reserve rs r, kept, edges)

-- nothing is reserved
pub none-reserved : (ranks : List ℕ) (base : ℕ) (wires : List Wire) → IsGraphSoFar ranks wires []
    → AreReserves (length ranks) base wires []
none-reserved ranks base wires g = search arith

-- ---- the graph with unborn nodes

-- nodes and edges are reserved
pub graph-reserved : (ranks more : List ℕ) (wires : List Wire) (rs : List Reserve) (r : Reserve)
    → IsGraphSoFar ranks wires rs → length ranks + length more ≤ 256
    → length wires + reserved_edges rs + r.edges ≤ 1024
    → IsGraphSoFar (ranks ++ more) wires (rs ++ r ∷ [])
graph-reserved ranks more wires rs r g nodes edges =
    search (arith, length-append, sum_by_push, edge-kept)

-- ---- a finished graph

pub behind-reserved : (w n : ℕ) (rs : List Reserve)
    → is_reserved (map (behind_wires w) rs) n ≡ is_reserved rs n
behind-reserved w n [] = refl
behind-reserved w n (r ∷ rs) = ap (λ b. holds_node n r || b) (behind-reserved w n rs)

behind-edges : (w : ℕ) (rs : List Reserve)
    → reserved_edges (map (behind_wires w) rs) ≡ reserved_edges rs
behind-edges w [] = refl
behind-edges w (r ∷ rs) = search (arith, sum_by-cons, behind-edges w rs)

pub graph-behind : (ranks : List ℕ) (wires : List Wire) (rs : List Reserve) (w : ℕ)
    → IsGraphSoFar ranks wires rs → IsGraphSoFar ranks wires (map (behind_wires w) rs)
graph-behind ranks wires rs w g = search (arith, behind-edges)

-- the reserved edges follow the wires
pub reserves-behind : (nodes w : ℕ) (wires : List Wire) (rs : List Reserve)
    → AreReserves nodes 0 wires rs → AreReserves nodes w wires (map (behind_wires w) rs)
unfolding reserve_at
reserves-behind nodes w wires rs h = grind (arith, same, at, behind-edges w rs)
  where
    same : (n : ℕ) → IsAdded nodes rs n → IsAdded nodes (map (behind_wires w) rs) n
    same n a = search (arith, behind-reserved)

    at : (k : ℕ) → k < length (map (behind_wires w) rs) → (k < length rs)
        × (reserve_at (map (behind_wires w) rs) k ≡ behind_wires w (reserve_at rs k))
    at k lt = search (arith, length-map, get_or-map)

-- ---- the boxes

module _ {A : Type 0} (view : A → BoxPicture) (rs : List Reserve) (xs : List A)
    (h : AreStarting rs (map view xs)) where
  abbrev box : List A → ℕ → BoxPicture
  box all n = get_or (map view all) n no_box

  -- a fresh box more, behind those that are reserved
  pub starting-fresh : (ys : List A) (b : A) → ys ≡ xs ++ b ∷ [] → IsFresh (view b)
      → is_reserved rs (length xs) ≡ false → AreStarting rs (map view ys)
  starting-fresh ys b e fresh free =
      grind (arith, map-append, length-map, at-seam no_box (map view xs) (view b))

  -- blanks that are reserved
  pub starting-blank : (ys bs : List A) (r : Reserve) → ys ≡ xs ++ bs → All IsBlank (map view bs)
      → r.first_node ≡ length xs → r.nodes ≡ length bs → (all : List Reserve) → all ≡ rs ++ r ∷ []
      → AreStarting all (map view ys)
  starting-blank ys bs r e blank first nodes all reserves n lt = grind (
    arith,
    length-map,
    length-append,
    map-append,
    cases_lt,
    not-with-one,
    get_or_append_left,
    with-one,
    get_or-append_right,
  )

  pub starting-behind : (w : ℕ) (all : List Reserve) → all ≡ map (behind_wires w) rs
      → AreStarting all (map view xs)
  starting-behind w all e n lt = rw (e, behind-reserved w n rs) (h n lt)
