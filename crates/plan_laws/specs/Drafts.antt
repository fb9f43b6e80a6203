-- Plans as lists of nodes in order. An open end is an output that no wire joins yet. Each node
-- takes a run of the open ends as its inputs 0, 1, .., and puts its outputs in their place.
use Rattle.plan_laws.specs.declared.nodes.DraftNode.{DraftNode}
use Rattle.plan_laws.specs.declared.nodes.NodePort.{NodePort}
use Rattle.proc_api.specs.Graphs.{IsGraph, input_count, output_count, rank_at}
use Rattle.proc_api.specs.Prelude.{All, Wire}
use Rattle.std.specs.Prelude.{IsPermutation, List, [], drop, length, map, replicate, slice_index_or, suc, take, zero, ℕ, ⊤, ◌++◌, ◌+◌, ◌<◌, ◌∷◌, ◌≡◌, ◌≤◌}

-- ---- runs of a list

-- so many from place i on
abbrev pub run_of : {X : Type 0} → ℕ → ℕ → List X → List X
run_of i k xs = take k (drop i xs)

-- the list with these in the place of so many from place i on
abbrev pub replaced : {X : Type 0} → ℕ → ℕ → List X → List X → List X
replaced i k new xs = take i xs ++ (new ++ drop (i + k) xs)

-- ---- what a list of nodes makes

-- the ranks of the nodes, the wires, and the open ends
pub record Draft : Type 0 where
  pub ranks : List ℕ
  pub wires : List Wire
  pub ends : List NodePort

abbrev pub no_draft : Draft
no_draft = record { ranks = []; wires = []; ends = [] }

-- so many ports of node n, the first of them port o
abbrev pub ports_of : ℕ → ℕ → ℕ → List NodePort
ports_of n o zero = []
ports_of n o (suc k) = record { node = n; port = o } ∷ ports_of n (suc o) k

-- wires from these ends to the inputs of node n, the first of them input i
abbrev pub wires_to : ℕ → ℕ → List NodePort → List Wire
wires_to n i [] = []
wires_to n i (e ∷ ends) = record { from = e.node; out = e.port; to = n; input = i } ∷ wires_to n
    (suc i) ends

-- the open ends that the node takes, of these or of what stands for them
abbrev pub taken_by : {X : Type 0} → DraftNode → List X → List X
taken_by node xs = run_of node.offset node.takes xs

-- what stands for its outputs is put in their place
abbrev pub given_by : {X : Type 0} → DraftNode → List X → List X → List X
given_by node new xs = replaced node.offset node.takes new xs

-- the draft with one node more
abbrev pub with_node : DraftNode → Draft → Draft
with_node node d = record {
  ranks = d.ranks ++ node.rank ∷ [];
  wires = d.wires ++ wires_to (length d.ranks) 0 (taken_by node d.ends);
  ends = given_by node (ports_of (length d.ranks) 0 node.gives) d.ends;
}

-- the draft with these nodes more
abbrev pub with_nodes : List DraftNode → Draft → Draft
with_nodes [] d = d
with_nodes (node ∷ nodes) d = with_nodes nodes (with_node node d)

-- The node takes open ends of lower ranks, and has few ports.
pub record FitsDraft (node : DraftNode) (d : Draft) : Type 0 where
  pub in_range : node.offset + node.takes ≤ length d.ends
  pub ranked : All (λ (e : NodePort). rank_at d.ranks e.node < node.rank) (taken_by node d.ends)
  pub few_inputs : node.takes ≤ 32
  pub few_outputs : node.gives ≤ 16

-- each node in turn may be added
abbrev pub AllFitDraft : List DraftNode → Draft → Type 0
AllFitDraft [] d = ⊤
AllFitDraft (node ∷ nodes) d = FitsDraft node d × AllFitDraft nodes (with_node node d)

-- ---- the same by the ranks of the open ends alone

pub record FitsEnds (node : DraftNode) (ranks : List ℕ) : Type 0 where
  pub in_range : node.offset + node.takes ≤ length ranks
  pub ranked : All (λ r. r < node.rank) (taken_by node ranks)
  pub few_inputs : node.takes ≤ 32
  pub few_outputs : node.gives ≤ 16

-- the ranks of the open ends with one node more
abbrev pub ranks_with : DraftNode → List ℕ → List ℕ
ranks_with node ranks = given_by node (replicate node.gives node.rank) ranks

abbrev pub ranks_after : List DraftNode → List ℕ → List ℕ
ranks_after [] ranks = ranks
ranks_after (node ∷ nodes) ranks = ranks_after nodes (ranks_with node ranks)

abbrev pub AllFitEnds : List DraftNode → List ℕ → Type 0
AllFitEnds [] ranks = ⊤
AllFitEnds (node ∷ nodes) ranks = FitsEnds node ranks × AllFitEnds nodes (ranks_with node ranks)

-- ---- the law of a draft

-- the first k ports of each node in turn, from node n on
abbrev pub ports_from : ℕ → List ℕ → List NodePort
ports_from n [] = []
ports_from n (k ∷ ks) = ports_of n 0 k ++ ports_from (suc n) ks

abbrev pub producer_of : Wire → NodePort
producer_of w = record { node = w.from; port = w.out }

abbrev pub consumer_of : Wire → NodePort
consumer_of w = record { node = w.to; port = w.input }

-- The wires end at the inputs of the nodes in order. They begin at outputs of the nodes, and those
-- that are left are open, each once.
pub record IsDraft (takes gives : List ℕ) (d : Draft) : Type 0 where
  pub inputs_count : length takes ≡ length d.ranks
  pub outputs_count : length gives ≡ length d.ranks
  pub inputs : map consumer_of d.wires ≡ ports_from 0 takes
  pub outputs : IsPermutation (map producer_of d.wires ++ d.ends) (ports_from 0 gives)
  pub ranked : All (λ (w : Wire). rank_at d.ranks w.from < rank_at d.ranks w.to) d.wires
  pub few_inputs : All (λ k. k ≤ 32) takes
  pub few_outputs : All (λ k. k ≤ 16) gives

-- the graph of a list of nodes: each node has the ports that the list gives it
pub record IsDraftGraph (nodes : List DraftNode) : Type 0 where
  pub graph : IsGraph (with_nodes nodes no_draft).ranks (with_nodes nodes no_draft).wires []
  pub inputs : (n : ℕ) → input_count (with_nodes nodes no_draft).wires n ≡ slice_index_or
      (map (λ (z : DraftNode). z.takes) nodes) n 0
  pub outputs : (n : ℕ) → output_count (with_nodes nodes no_draft).wires n ≡ slice_index_or
      (map (λ (z : DraftNode). z.gives) nodes) n 0
