-- Laws of graphs: the ports of a node in use are numbered from 0 up to their count, and a graph is
-- built node by node and edge by edge.
use Rattle.proc_api.proofs.Imports.{All-from_get_or, All-get_or, AllPass-from_list_all, ArePortsOnce, Bool, HasInputWire, HasOutputWire, IsEdge, IsGraph, IsGraphSoFar, List, Reserve, Wire, [], all_below, and_from, and_parts, arith, cases_lt, eq-eqb, eqb-true, false, get_or, get_or-append_seam, get_or_append_left, has_input, has_output, input_count, is_gapless, length, length-append, list_all, list_all-from_AllPass, no_wire, not, output_count, rank_at, refl, reserved_edges, suc, true, wire_at, zero, ℕ, ◌++◌, ◌+◌, ◌<◌, ◌==◌, ◌||◌, ◌∷◌, ◌≡◌, ◌≤◌, ◌⊎◌}
use Rattle.proc_api.proofs.PortCounts.{AreGapless, count-limit, edge-of, has_port, port-below-count, port-of, port-of-count}

pub wire-input : (wires : List Wire) (e n i : ℕ) → e < length wires → (wire_at wires e).to ≡ n
    → (wire_at wires e).input ≡ i → has_input wires n i ≡ true
wire-input = port-of (λ w. w.to) (λ w. w.input)

pub wire-output : (wires : List Wire) (e n o : ℕ) → e < length wires → (wire_at wires e).from ≡ n
    → (wire_at wires e).out ≡ o → has_output wires n o ≡ true
wire-output = port-of (λ w. w.from) (λ w. w.out)

-- ---- no gap

pub all_below-at : (test : ℕ → Bool) (k i : ℕ) → all_below test k ≡ true → i < k → test i ≡ true
all_below-at test zero i h lt = absurd (omega (arith, lt))
all_below-at test (suc k) i h lt = grind (arith, and_parts, cases_lt, all_below-at test k)

-- one that fails is enough
pub all_below-fails : (test : ℕ → Bool) (k i : ℕ) → i < k → test i ≡ false → (b : Bool)
    → all_below test k ≡ b → all_below test k ≡ false
all_below-fails test k i lt off b e = grind (arith, all_below-at test k i)

unless_met : (a b : Bool) → (a ≡ true → b ≡ true) → (not a || b) ≡ true
unless_met a b h = grind arith

all_below-from : (test : ℕ → Bool) (k : ℕ) → ((i : ℕ) → i < k → test i ≡ true)
    → all_below test k ≡ true
all_below-from test zero h = refl
all_below-from test (suc k) h = grind (arith, and_from, all_below-from test k)

-- where each edge is at another node, or each port below its own is in use, there is no gap; and
-- the other way round
module _ (node port : Wire → ℕ) (wires : List Wire) where
  abbrev follows : ℕ → Wire → Bool
  follows n w = not (node w == n) || all_below (has_port node port wires n) (port w)

  all-follow : (n : ℕ) → ((e k : ℕ) → e < length wires → node (wire_at wires e) ≡ n
      → k < port (wire_at wires e) → has_port node port wires n k ≡ true)
      → list_all (follows n) wires ≡ true
  unfolding wire_at
  all-follow n h =
      list_all-from_AllPass (follows n) wires (All-from_get_or (λ w. follows n w ≡ true) wires
      no_wire (λ e lt. unless_met _ _ (λ at. all_below-from (has_port node port wires n)
      (port (wire_at wires e)) (λ k below. h e k lt (eqb-true _ _ at) below))))

  no-gap : ((e : ℕ) → e < length wires → list_all (follows (node (wire_at wires e))) wires ≡ true)
      → AreGapless node port wires
  unfolding wire_at
  no-gap h e k lt below =
      let n : ℕ = node (wire_at wires e) in
      grind (
        arith,
        All-get_or (λ w. follows n w ≡ true) wires e no_wire lt
            (AllPass-from_list_all (follows n) wires (h e lt)),
        eq-eqb n n,
        all_below-at (has_port node port wires n) (port (wire_at wires e)) k,
      )

-- a node has no gap where each port below one in use is in use
pub is-gapless : (wires : List Wire) (n : ℕ)
    → ((e i : ℕ) → e < length wires → (wire_at wires e).to ≡ n → i < (wire_at wires e).input
    → has_input wires n i ≡ true) → ((e o : ℕ) → e < length wires → (wire_at wires e).from ≡ n
    → o < (wire_at wires e).out → has_output wires n o ≡ true) → is_gapless wires n ≡ true
is-gapless wires n inputs outputs = search (arith, and_from, all-follow)

-- ---- the ports of a node are numbered from 0 up to their count

module _ (ranks : List ℕ) (wires : List Wire) (reserves : List Reserve)
    (g : IsGraph ranks wires reserves) where
  inputs-gapless : AreGapless (λ w. w.to) (λ w. w.input) wires
  inputs-gapless = no-gap (λ w. w.to) (λ w. w.input) wires
      (λ e lt. (and_parts _ _ (g.gapless _ (g.so_far.edges e lt).to_in_range)).0)

  outputs-gapless : AreGapless (λ w. w.from) (λ w. w.out) wires
  outputs-gapless = no-gap (λ w. w.from) (λ w. w.out) wires
      (λ e lt. (and_parts _ _ (g.gapless _ (g.so_far.edges e lt).from_in_range)).1)

  -- each edge's input is below the count of its node's inputs
  pub input-below-count : (e : ℕ) → e < length wires
      → (wire_at wires e).input < input_count wires (wire_at wires e).to
  input-below-count = port-below-count (λ w. w.to) (λ w. w.input) wires inputs-gapless

  pub output-below-count : (e : ℕ) → e < length wires
      → (wire_at wires e).out < output_count wires (wire_at wires e).from
  output-below-count = port-below-count (λ w. w.from) (λ w. w.out) wires outputs-gapless

  -- each input below the count has a wire
  pub input-of-count : (n i : ℕ) → i < input_count wires n → HasInputWire wires n i
  input-of-count n i lt =
      let a = edge-of (λ w. w.to) (λ w. w.input) wires n i (port-of-count (λ w. w.to)
      (λ w. w.input) wires g.so_far.inputs_once inputs-gapless n i lt) in
      record { edge = a.0; in_range = a.1; to = a.2; input_is = a.3 }

  pub output-of-count : (n o : ℕ) → o < output_count wires n → HasOutputWire wires n o
  output-of-count n o lt =
      let a = edge-of (λ w. w.from) (λ w. w.out) wires n o (port-of-count (λ w. w.from)
      (λ w. w.out) wires g.so_far.outputs_once outputs-gapless n o lt) in
      record { edge = a.0; in_range = a.1; from = a.2; out_is = a.3 }

-- the counts are within the limits
pub few-inputs : (ranks : List ℕ) (wires : List Wire) (reserves : List Reserve)
    → IsGraphSoFar ranks wires reserves → (n : ℕ) → input_count wires n ≤ 32
few-inputs ranks wires reserves g n =
    count-limit (λ w. w.to) (λ w. w.input) wires 32 g.inputs_once n
    (λ e lt at. (g.edges e lt).few_inputs)

pub few-outputs : (ranks : List ℕ) (wires : List Wire) (reserves : List Reserve)
    → IsGraphSoFar ranks wires reserves → (n : ℕ) → output_count wires n ≤ 16
few-outputs ranks wires reserves g n =
    count-limit (λ w. w.from) (λ w. w.out) wires 16 g.outputs_once n
    (λ e lt at. (g.edges e lt).few_outputs)

-- ---- how a graph is built

-- the rank of a node, and an edge, stay with more nodes
pub rank_at-append : (ranks more : List ℕ) (n : ℕ) → n < length ranks
    → rank_at (ranks ++ more) n ≡ rank_at ranks n
unfolding rank_at
rank_at-append ranks more n lt = get_or_append_left ranks more 0 n lt

pub rank-kept : (ranks : List ℕ) (r n : ℕ) → n < length ranks
    → rank_at (ranks ++ r ∷ []) n ≡ rank_at ranks n
rank-kept ranks r n lt = rank_at-append ranks (r ∷ []) n lt

pub edge-kept : (ranks more : List ℕ) (w : Wire) → IsEdge ranks w → IsEdge (ranks ++ more) w
edge-kept ranks more w h = search (arith, length-append, rank_at-append)

-- a node is added
pub node-added : (ranks : List ℕ) (wires : List Wire) (reserves : List Reserve) (r : ℕ)
    → IsGraphSoFar ranks wires reserves → length ranks < 256
    → IsGraphSoFar (ranks ++ r ∷ []) wires reserves
node-added ranks wires reserves r g lt = search (arith, length-append, edge-kept)

-- a place of a list with one element more is one of the list, or the last
pub at-seam : {A : Type 0} (past : A) (xs : List A) (x : A) (k : ℕ) → k < length (xs ++ x ∷ [])
    → ((k < length xs) × (get_or (xs ++ x ∷ []) k past ≡ get_or xs k past))
    ⊎ ((length xs ≡ k) × (get_or (xs ++ x ∷ []) k past ≡ x))
at-seam past xs x k lt = grind (
  arith,
  get_or_append_left,
  cases_lt k (length xs),
  length-append xs (x ∷ []),
  get_or-append_seam xs x [] past,
)

module _ (wires : List Wire) (w : Wire) where
  -- Two edges at one port are one, also with a wire at a port that has none.
  once-added : (node port : Wire → ℕ) → ArePortsOnce node port wires
      → has_port node port wires (node w) (port w) ≡ false
      → ArePortsOnce node port (wires ++ w ∷ [])
  unfolding wire_at
  once-added node port once free e f we wf same =
      grind (arith, at-seam no_wire wires w e we, at-seam no_wire wires w f wf, port-of)

-- an edge is added at two free ports
pub edge-added : (ranks : List ℕ) (wires : List Wire) (reserves : List Reserve) (w : Wire)
    → IsGraphSoFar ranks wires reserves → IsEdge ranks w → has_input wires w.to w.input ≡ false
    → has_output wires w.from w.out ≡ false → length wires + reserved_edges reserves < 1024
    → IsGraphSoFar ranks (wires ++ w ∷ []) reserves
unfolding wire_at
edge-added ranks wires reserves w g h free_input free_output lt = grind (
  arith,
  length-append,
  at-seam no_wire wires w,
  once-added wires w (λ x. x.to) (λ x. x.input) g.inputs_once,
  once-added wires w (λ x. x.from) (λ x. x.out) g.outputs_once,
)
