-- The sizes of the table for a graph fit.
use Rattle.std.proofs.Common.{Bool, List, [], ap, arith, length, refl, suc, true, ℕ, ◌<◌, ◌∷◌, ◌≡◌, ◌≤◌}
use Rattle.std.proofs.lemmas.Bool.{and_from, lt-ltb, ne_eqb}
use Rattle.std.proofs.lemmas.List.Recursion.{and_from_places}
use Rattle.std.proofs.lemmas.List.Sums.{sum_by-cons}
use Rattle.core_laws.specs.Start.{are_disjoint, each_two, fits, reserve_fits, share_no_port, wire_fits}
use Rattle.core_laws.specs.Views as core
use Rattle.exec_laws.specs.Prelude.{Reserve, Wire}
use Rattle.proc_api.specs.Names.{no_wire}
use Rattle.proc_api.specs.Graphs.{rank_at, reserved_edges}
use Rattle.proc_api.specs.Reserves.{no_reserve}
use Rattle.std.specs.List.{list_all}
use Rattle.std.proofs.Math.ListN.{get_or}
use Rattle.node_cells.specs.NewCells.{IsGraphOfNodes, sizes_of}
unfoldable use Rattle.exec_laws.specs.Prelude.{wire_at}
unfoldable use Rattle.proc_api.specs.Reserves.{reserve_at}

edges-same : (rs : List Reserve) → core.reserved_edge_count rs ≡ reserved_edges rs
edges-same [] = refl
edges-same (r ∷ rs) = search (arith, sum_by-cons, edges-same rs)

-- each two elements pass, where each does with each later one
two-pass : {A : Type 0} (t : A → A → Bool) (d : A) (xs : List A) → ((j k : ℕ) → j < k
    → k < length xs → t (get_or xs j d) (get_or xs k d) ≡ true) → each_two t xs ≡ true
two-pass t d [] h = refl
two-pass t d (x ∷ xs) h = and_from _ _
    (and_from_places (list_all (t x)) (t x) refl (λ y ys. refl) xs d
    (λ k lt. h 0 (suc k) (omega arith) (omega (arith, lt))))
    (two-pass t d xs (λ j k lt inside. h (suc j) (suc k) (omega (arith, lt))
    (omega (arith, inside))))

-- an edge to a node of a higher rank joins two nodes
pub one-rank : (ranks : List ℕ) (m n : ℕ) → m ≡ n → rank_at ranks n < rank_at ranks m → ⊥
one-rank ranks m n e h = let same = ap (rank_at ranks) e in omega (arith, same, h)

module _ (nodes workers : ℕ) (wires : List Wire) (rs : List Reserve)
    (g : IsGraphOfNodes nodes wires rs) where
  wire-fits : (e : ℕ) → e < length wires
      → wire_fits (sizes_of nodes wires rs workers) (get_or wires e no_wire) ≡ true
  unfolding wire_at
  wire-fits e lt = grind (arith, get_or, one-rank, and_from, ne_eqb, lt-ltb)

  wires-apart : (e f : ℕ) → e < f → f < length wires
      → share_no_port (get_or wires e no_wire) (get_or wires f no_wire) ≡ true
  unfolding wire_at
  wires-apart e f lt inside = search arith

  reserve-fits : (k : ℕ) → k < length rs
      → reserve_fits (sizes_of nodes wires rs workers) (get_or rs k no_reserve) ≡ true
  unfolding reserve_at
  reserve-fits k lt = search (arith, edges-same)

  reserves-apart : (j k : ℕ) → j < k → k < length rs
      → are_disjoint (get_or rs j no_reserve) (get_or rs k no_reserve) ≡ true
  unfolding reserve_at
  reserves-apart j k lt inside =
      let apart = g.reserves_are.apart j k lt inside in
      let a = apart.nodes in
      let b = apart.edges in
      grind (arith, a, b, ne_eqb _ _ apart.growing)

  pub sizes-fit : workers ≤ 16 → fits (sizes_of nodes wires rs workers) ≡ true
  sizes-fit few =
      let many_nodes = g.graph.so_far.few_nodes in
      let many_edges = g.graph.so_far.few_edges in
      let s = sizes_of nodes wires rs workers in
      and_from _ _ (grind (arith, few, many_nodes, g.nodes_are, many_edges, edges-same rs))
      (and_from _ _ (and_from _ _
      (and_from_places (list_all (wire_fits s)) (wire_fits s) refl (λ y ys. refl) wires no_wire
      wire-fits) (two-pass share_no_port no_wire wires wires-apart)) (and_from _ _
      (and_from_places (list_all (reserve_fits s)) (reserve_fits s) refl (λ y ys. refl) rs
      no_reserve reserve-fits) (two-pass are_disjoint no_reserve rs reserves-apart)))
