-- What a plan keeps for its lists: which nodes each reserve has, and that they make a graph.
use Rattle.query_run.proofs.Imports.{All, All-append, All-nil, All-replicate, AreReserves, Bool, DraftNode, IsGraph, IsGraphSoFar, KeepsBehind, Kind, List, PartSpec, PlanReserve, Reserve, Wire, [], and_from, and_parts, ap, append-nil, append_assoc, arith, cases_Bool, cases_lt, edges_kept, eq-eqb, eqb-true, false, get_or-append_seam, get_or_append_left, graph-reserved, grown_kind, holds_node, inl, inr, is-gapless, is_reserved, kind_of, kinds_reserved, le-leb, leb-true, length, length-append, length-flat_map, length-replicate, list_any-append, list_source, lt-leb, lt-ltb, ltb-true, nat_le, ne_eqb, no_reserve, none-reserved, refl, replicate, replicate-append-replicate, reserve-added, reserve_at, reserve_of, reserved_edges, reserved_nodes, reserves_behind, reserves_from, row_of, spec_at, specs_in, subst, suc, sum_by-cons, sum_by_push, sym, take, true, wire_at, ℕ, ◌&&◌, ◌++◌, ◌+◌, ◌<◌, ◌||◌, ◌∙◌, ◌∷◌, ◌≡◌, ◌≢◌, ◌≤◌}

-- what is kept for a list at node n
abbrev pub list_kept : ℕ → PlanReserve
list_kept n = record { node = n; kinds = replicate 32 grown_kind; edges = 32 }

pub kept-nodes : (r : PlanReserve) (rs : List PlanReserve)
    → reserved_nodes (r ∷ rs) ≡ length r.kinds + reserved_nodes rs
kept-nodes r rs = sum_by-cons (λ (q : PlanReserve). length q.kinds) r rs

-- as many kinds are kept as nodes
pub kinds-length : (rs : List PlanReserve) → length (kinds_reserved rs) ≡ reserved_nodes rs
kinds-length rs = length-flat_map (λ (r : PlanReserve). r.kinds) rs

-- the reserve as the code makes it, with its nodes and edges from here on
abbrev pub made : PlanReserve → (node count edge : ℕ) → Reserve
made r node count edge = record {
  node = r.node;
  first_node = node;
  nodes = count;
  first_edge = edge;
  edges = r.edges;
}

-- ---- the nodes that a reserve holds

holds-from : (q : ℕ) (r : Reserve) → holds_node q r ≡ true
    → (r.first_node ≤ q) × (q < r.first_node + r.nodes)
holds-from q r h = grind (arith, and_parts, leb-true, ltb-true)

holds-none : (q n : ℕ) → holds_node q no_reserve ≡ true → ⊥
holds-none q n h = grind (arith, holds-from)

-- a node that is held lies behind so many, and before so many more
pub holds-within : (q n nodes edges : ℕ) (rs : List PlanReserve)
    → holds_node q (reserve_of (reserves_behind nodes edges rs) n) ≡ true
    → (nodes ≤ q) × (q < nodes + reserved_nodes rs)
holds-within q n nodes edges [] h = absurd (holds-none q n h)
holds-within q n nodes edges (r ∷ rs) h =
    let rest = holds-within q n (nodes + length r.kinds) (edges + r.edges) rs in
    grind (arith, holds-from, kept-nodes r rs, rest)

-- and what has the reserve is one of the nodes
pub grower-within : (q m n nodes edges : ℕ) (zs : List DraftNode)
    → holds_node q (reserve_of (reserves_behind nodes edges (reserves_from n zs)) m) ≡ true
    → m < n + length zs
grower-within q m n nodes edges [] h = absurd (holds-none q m h)
grower-within q m n nodes edges (z ∷ zs) h =
    let kept = grower-within q m (suc n) (nodes + 32) (edges + 32) zs in
    let none = grower-within q m (suc n) nodes edges zs in
    grind (arith, eqb-true, kept, none)

-- no two nodes' reserves hold one node
pub holds-one : (q m n nodes edges : ℕ) (rs : List PlanReserve)
    → holds_node q (reserve_of (reserves_behind nodes edges rs) m) ≡ true
    → holds_node q (reserve_of (reserves_behind nodes edges rs) n) ≡ true → m ≡ n
holds-one q m n nodes edges [] h k = absurd (holds-none q m h)
holds-one q m n nodes edges (r ∷ rs) h k =
    let first = holds-within q m (nodes + length r.kinds) (edges + r.edges) rs in
    let second = holds-within q n (nodes + length r.kinds) (edges + r.edges) rs in
    let rest = holds-one q m n (nodes + length r.kinds) (edges + r.edges) rs in
    grind (arith, holds-from, eqb-true, first, second, rest)

-- ---- the reserve of a list

-- a reserve of 32 nodes from this one on, and of as many edges
pub record IsListReserve (r : Reserve) (first : ℕ) : Type 0 where
  pub first_node : r.first_node ≡ first
  pub nodes : r.nodes ≡ 32
  pub edges : r.edges ≡ 32

-- the list at place m of the nodes has it, as node k
pub list-reserve : (nodes edges n : ℕ) (zs : List DraftNode) (m k first : ℕ) → m < length zs
    → (row_of (kind_of (spec_at (specs_in zs) m))).reads_list ≡ true → k ≡ n + m
    → first ≡ nodes + reserved_nodes (reserves_from n (take m zs))
    → IsListReserve (reserve_of (reserves_behind nodes edges (reserves_from n zs)) k) first
unfolding spec_at
list-reserve nodes edges n (z ∷ zs) (suc m) k first lt list at is =
    let more = kept-nodes (list_kept n) (reserves_from (suc n) (take m zs)) in
    let here = list-reserve (nodes + 32) (edges + 32) (suc n) zs m k first in
    let later = list-reserve nodes edges (suc n) zs m k first in
    grind (arith, ne_eqb, more, here, later)
list-reserve nodes edges n zs m k first lt list at is = grind (arith, eq-eqb)

-- what is kept for the list that node m reads
module _ (nodes : List DraftNode) (edges m : ℕ) (list : PartSpec) (own : m < length nodes)
    (reads : spec_at (specs_in nodes) m ≡ list_source list) where
  abbrev its_reserve : Reserve
  its_reserve = reserve_of (reserves_behind (length nodes) edges (reserves_from 0 nodes)) m

  pub kept-of : IsListReserve its_reserve
      (length nodes + reserved_nodes (reserves_from 0 (take m nodes)))
  kept-of = list-reserve (length nodes) edges 0 nodes m m _ own
      (ap (λ s. (row_of (kind_of s)).reads_list) reads) (omega arith) refl

  -- it holds each of its nodes, which lies behind those of the plan
  pub held-of : (k : ℕ) → k < 32 → holds_node (its_reserve.first_node + k) its_reserve ≡ true
  held-of k lt = grind (arith, kept-of, and_from, le-leb, lt-ltb)

  pub past-of : (k : ℕ) → k < 32 → (length nodes ≤ its_reserve.first_node + k)
      × (its_reserve.first_node + k < length nodes + reserved_nodes (reserves_from 0 nodes))
  past-of k lt = search (arith, holds-within, held-of)

-- ---- the graph of a plan

module _ (ranks : List ℕ) (wires : List Wire) (base : IsGraph ranks wires []) where
  abbrev nodes : ℕ
  nodes = length ranks

  -- so many nodes behind those of the graph are kept by these reserves
  record Keeps (rs : List Reserve) (k : ℕ) : Type 0 where
    pub reserves : AreReserves (nodes + k) (length wires) wires rs
    pub graph : IsGraphSoFar (ranks ++ replicate k 0) wires rs
    pub none_before : (q : ℕ) → q < nodes → is_reserved rs q ≡ false
    pub all_behind : (q : ℕ) → nodes ≤ q → q < nodes + k → is_reserved rs q ≡ true

  -- and those of one reserve more
  keeps-one : (rs : List Reserve) (k : ℕ) (r : Reserve) → Keeps rs k → r.node < nodes
      → ((j : ℕ) → j < length rs → (reserve_at rs j).node ≢ r.node)
      → r.first_node ≡ nodes + k → r.first_edge ≡ length wires + reserved_edges rs
      → nodes + k + r.nodes ≤ 256 → length wires + reserved_edges rs + r.edges ≤ 1024
      → Keeps (rs ++ r ∷ []) (k + r.nodes)
  keeps-one rs k r h own new first first_edge few few_edges =
      let all : nodes + k + r.nodes ≡ nodes + (k + r.nodes) = omega arith in
      let len : length {A = ℕ} (replicate k 0) ≡ k = length-replicate {A = ℕ} k 0 in
      record {
        reserves = subst (λ n. AreReserves n (length wires) wires (rs ++ r ∷ [])) all
            (reserve-added (nodes + k) (length wires) wires rs h.reserves r
            (record { in_range = omega (arith, own); unreserved = h.none_before r.node own })
            new first first_edge);
        graph = subst (λ l. IsGraphSoFar l wires (rs ++ r ∷ []))
            (append_assoc ranks (replicate k 0) (replicate r.nodes 0)
            ∙ ap (λ l. ranks ++ l) (replicate-append-replicate k r.nodes 0))
            (graph-reserved (ranks ++ replicate k 0) (replicate r.nodes 0) wires rs r h.graph
            (omega (
              arith,
              few,
              len,
              length-replicate {A = ℕ} r.nodes 0,
              length-append ranks (replicate k 0),
            ))
            few_edges);
        none_before = λ q lt.
            let low : nat_le r.first_node q ≡ false =
            lt-leb r.first_node q (omega (arith, lt, first)) in
            list_any-append (holds_node q) rs (r ∷ []) ∙ rw (h.none_before q lt, low) refl;
        all_behind = λ q le lt. list_any-append (holds_node q) rs (r ∷ [])
            ∙ elim (cases_lt q (nodes + k)) [
              | inl less ↦ rw (h.all_behind q le less) refl
              | inr past ↦
                  let low = le-leb r.first_node q (omega (arith, past, first)) in
                  let high = lt-ltb q (r.first_node + r.nodes) (omega (arith, lt, first)) in
                  rw (low, high) (or-true (is_reserved rs q))
            ];
      }
    where
      or-true : (b : Bool) → (b || (true && true || false)) ≡ true
      or-true true = refl
      or-true false = refl

  nodes-before : (n : ℕ) (rs : List Reserve) (r : Reserve) → r.node ≡ n
      → ((j : ℕ) → j < length rs → (reserve_at rs j).node < n) → (j : ℕ)
      → j < length (rs ++ r ∷ []) → (reserve_at (rs ++ r ∷ []) j).node < suc n
  unfolding reserve_at
  nodes-before n rs r own earlier j lt = grind (
    arith,
    get_or_append_left,
    cases_lt j (length rs),
    length-append rs (r ∷ []),
    get_or-append_seam rs r [] no_reserve,
  )

  keeps-from : (n : ℕ) (zs : List DraftNode) (rs : List Reserve) (k p e all : ℕ) → Keeps rs k
      → n + length zs ≤ nodes → ((j : ℕ) → j < length rs → (reserve_at rs j).node < n)
      → p ≡ nodes + k → e ≡ length wires + reserved_edges rs
      → all ≡ k + reserved_nodes (reserves_from n zs) → nodes + all ≤ 256
      → e + edges_kept (reserves_from n zs) ≤ 1024
      → Keeps (rs ++ reserves_behind p e (reserves_from n zs)) all
  unfolding reserve_at
  keeps-from n [] rs k p e all h le earlier first edge is few few_edges = grind (arith, append-nil)
  keeps-from n (z ∷ zs) rs k p e all h le earlier first edge is few few_edges =
      elim (cases_Bool (row_of (kind_of z.spec)).reads_list) [
        | inr other ↦ rw other (keeps-from (suc n) zs rs k p e all h (omega (arith, le))
            (λ j lt. let less = earlier j lt in omega (arith, less)) first edge (rw other at is) few
            (rw other at few_edges))
        | inl list ↦
            let r : Reserve =
            record { node = n; first_node = p; nodes = 32; first_edge = e; edges = 32 } in
            let here = rw list at is in
            let edges = rw list at few_edges in
            let more = kept-nodes (list_kept n) (reserves_from (suc n) zs) in
            let more_edges = sum_by-cons (λ (q : PlanReserve). q.edges) (list_kept n)
            (reserves_from (suc n) zs) in
            rw list
            (rw append_assoc at (keeps-from (suc n) zs (rs ++ r ∷ []) (k + 32) (p + 32) (e + 32)
            all (keeps-one rs k r h (omega (arith, le)) (λ j lt same.
            let less = earlier j lt in absurd (omega (arith, less, same))) first edge
            (omega (arith, few, here, more)) (omega (arith, edges, edge, more_edges)))
            (omega (arith, le)) (nodes-before n rs r refl earlier)
            (omega (arith, first))
            (omega (arith, edge, sum_by_push (λ (q : Reserve). q.edges) rs r))
            (omega (arith, here, more)) few (omega (arith, edges, more_edges))))
      ]

  -- the graph with what is kept for the lists among its nodes
  pub keeps-behind : (zs : List DraftNode) → length zs ≡ nodes
      → nodes + reserved_nodes (reserves_from 0 zs) ≤ 256
      → length wires + edges_kept (reserves_from 0 zs) ≤ 1024
      → KeepsBehind nodes (record {
        ranks = ranks ++ replicate (reserved_nodes (reserves_from 0 zs)) 0;
        wires = wires;
        reserves = reserves_behind nodes (length wires) (reserves_from 0 zs);
      })
  unfolding wire_at
  keeps-behind zs count few few_edges =
      let kept : ℕ = reserved_nodes (reserves_from 0 zs) in
      let start : Keeps [] 0 = record {
        reserves = subst (λ n. AreReserves n (length wires) wires [])
            (let e : nodes ≡ nodes + 0 = omega arith in e)
            (none-reserved ranks (length wires) wires base.so_far);
        graph = rw append-nil base.so_far;
        none_before = λ q lt. refl;
        all_behind = λ q le lt. absurd (omega (arith, le, lt));
      } in
      let k = keeps-from 0 zs [] 0 nodes (length wires) kept start (omega (arith, count))
      (λ j lt. absurd (omega (arith, lt))) (omega arith) (omega arith) (omega arith) few
      few_edges in
      let len : length (ranks ++ replicate kept 0) ≡ nodes + kept =
      length-append ranks (replicate kept 0)
      ∙ ap (λ n. nodes + n) (length-replicate {A = ℕ} kept 0) in
      record {
        graph = record {
          so_far = k.graph;
          gapless = λ n lt. elim (cases_lt n nodes) [
            | inl less ↦ base.gapless n less
            | inr past ↦ is-gapless wires n
                (λ e i within to below.
                absurd (omega (arith, (base.so_far.edges e within).to_in_range, to, past)))
                (λ e o within from below.
                absurd (omega (arith, (base.so_far.edges e within).from_in_range, from, past)))
          ];
        };
        reserves_fit = subst (λ n. AreReserves n (length wires) wires
            (reserves_behind nodes (length wires) (reserves_from 0 zs))) (sym len) k.reserves;
        kept = λ n lt. elim (cases_lt n nodes) [
          | inl less ↦ k.none_before n less ∙ sym (lt-leb nodes n less)
          | inr past ↦ k.all_behind n past (omega (arith, lt, len)) ∙ sym (le-leb nodes n past)
        ];
      }

-- as many edges are kept as nodes
pub edges-as-nodes : (n : ℕ) (zs : List DraftNode)
    → edges_kept (reserves_from n zs) ≡ reserved_nodes (reserves_from n zs)
edges-as-nodes n [] = refl
edges-as-nodes n (z ∷ zs) =
    let nodes = kept-nodes (list_kept n) (reserves_from (suc n) zs) in
    let edges = sum_by-cons (λ (q : PlanReserve). q.edges) (list_kept n)
    (reserves_from (suc n) zs) in
    grind (arith, nodes, edges, edges-as-nodes (suc n) zs)

-- only sources are kept
pub kept-sources : (P : Kind → Type 0) → P grown_kind → (n : ℕ) (zs : List DraftNode)
    → All P (kinds_reserved (reserves_from n zs))
kept-sources P csv n [] = All-nil P
kept-sources P csv n (z ∷ zs) = elim (cases_Bool (row_of (kind_of z.spec)).reads_list) [
  | inl e ↦ rw e (All-append P (replicate 32 grown_kind) _ (All-replicate P 32 grown_kind csv)
      (kept-sources P csv (suc n) zs))
  | inr e ↦ rw e (kept-sources P csv (suc n) zs)
]
