-- Graphs of processors: each node has a rank, each edge goes from a lower rank to a higher one, and
-- the ports of a node that are in use have one edge each and are numbered from 0 without a gap.
use Rattle.chunk_data.specs.Places.{AreOnceBy}
use Rattle.std.specs.Prelude.{◌&&◌, ◌+◌, ◌<◌, ◌==◌, ◌||◌, ◌≡◌, ◌≤◌}
use Rattle.proc_api.specs.Prelude.{Bool, List, Reserve, Wire, count_by, length, list_all, list_any, not, slice_index_or, suc, sum_by, true, zero, ℕ}
use Rattle.proc_api.specs.Settled.{wire_at}

unfoldable pub rank_at : List ℕ → ℕ → ℕ
rank_at ranks n = slice_index_or ranks n 0

-- whether an edge ends at the input of the node
abbrev pub has_input : List Wire → ℕ → ℕ → Bool
has_input wires n i = list_any (λ (w : Wire). (w.to == n) && (w.input == i)) wires

-- whether an edge begins at the output of the node
abbrev pub has_output : List Wire → ℕ → ℕ → Bool
has_output wires n o = list_any (λ (w : Wire). (w.from == n) && (w.out == o)) wires

-- how many edges end at the node
abbrev pub input_count : List Wire → ℕ → ℕ
input_count wires n = count_by (λ (w : Wire). w.to == n) wires

-- how many edges begin at the node
abbrev pub output_count : List Wire → ℕ → ℕ
output_count wires n = count_by (λ (w : Wire). w.from == n) wires

-- whether each number below k passes
abbrev pub all_below : (ℕ → Bool) → ℕ → Bool
all_below test zero = true
all_below test (suc k) = all_below test k && test k

-- whether the edge ends at another node, or each input below its own is in use
abbrev pub follows_inputs : List Wire → ℕ → Wire → Bool
follows_inputs wires n w = not (w.to == n) || all_below (has_input wires n) w.input

-- whether the edge begins at another node, or each output below its own is in use
abbrev pub follows_outputs : List Wire → ℕ → Wire → Bool
follows_outputs wires n w = not (w.from == n) || all_below (has_output wires n) w.out

-- whether each port of the node below one in use is in use too
abbrev pub is_gapless : List Wire → ℕ → Bool
is_gapless wires n =
    list_all (follows_inputs wires n) wires && list_all (follows_outputs wires n) wires

-- the edges that are kept for nodes that grow
abbrev pub reserved_edges : List Reserve → ℕ
reserved_edges reserves = sum_by (λ (r : Reserve). r.edges) reserves

-- an edge between two nodes, from a lower rank to a higher one, at ports within the limits
pub record IsEdge (ranks : List ℕ) (w : Wire) : Type 0 where
  pub from_in_range : w.from < length ranks
  pub to_in_range : w.to < length ranks
  pub ranked : rank_at ranks w.from < rank_at ranks w.to
  pub few_inputs : w.input < 32
  pub few_outputs : w.out < 16

-- two edges at one port are one edge, where `node` and `port` tell at which port an edge is
abbrev pub ArePortsOnce : (node port : Wire → ℕ) → List Wire → Type 0
ArePortsOnce node port wires = AreOnceBy (length wires) (λ e f. (node (wire_at wires e)
    ≡ node (wire_at wires f)) × (port (wire_at wires e) ≡ port (wire_at wires f)))

-- A graph to which edges may still be added: two edges at one port are one edge. What is kept for
-- growth counts among the edges.
pub record IsGraphSoFar (ranks : List ℕ) (wires : List Wire)
    (reserves : List Reserve) : Type 0 where
  pub few_nodes : length ranks ≤ 256
  pub few_edges : length wires + reserved_edges reserves ≤ 1024
  pub edges : (e : ℕ) → e < length wires → IsEdge ranks (wire_at wires e)
  pub inputs_once : ArePortsOnce (λ w. w.to) (λ w. w.input) wires
  pub outputs_once : ArePortsOnce (λ w. w.from) (λ w. w.out) wires

-- a graph
pub record IsGraph (ranks : List ℕ) (wires : List Wire) (reserves : List Reserve) : Type 0 where
  pub so_far : IsGraphSoFar ranks wires reserves
  pub gapless : (n : ℕ) → n < length ranks → is_gapless wires n ≡ true
