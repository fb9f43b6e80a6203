-- What is kept for nodes that grow: nodes that aren't born, and edges that aren't wired.
use Rattle.std.specs.Prelude.{◌≡◌, ◌≢◌, ℕ, ◌+◌, ◌<◌, ◌≤◌, ◌&&◌, nat_le, nat_lt, Bool, true, false, List, length, slice_index_or}
use Rattle.std.specs.List.{list_any}
use Rattle.port_word.specs.declared.flags.Wire.{Wire}
use Rattle.port_word.specs.declared.flags.Reserve.{Reserve}
use Rattle.proc_api.specs.Boxes.{BoxPicture, no_box}
use Rattle.proc_api.specs.Clauses.{IsBlank, IsFresh}
use Rattle.proc_api.specs.Graphs.{reserved_edges}
use Rattle.proc_api.specs.Settled.{wire_at}

abbrev pub no_reserve : Reserve
no_reserve = record { node = 0; first_node = 0; nodes = 0; first_edge = 0; edges = 0 }

unfoldable pub reserve_at : List Reserve → ℕ → Reserve
reserve_at reserves k = slice_index_or reserves k no_reserve

abbrev pub holds_node : ℕ → Reserve → Bool
holds_node n r = nat_le r.first_node n && nat_lt n (r.first_node + r.nodes)

-- whether a reserve holds the node, which is unborn until that reserve's own node grows
abbrev pub is_reserved : List Reserve → ℕ → Bool
is_reserved reserves n = list_any (holds_node n) reserves

-- one of so many nodes that no reserve holds
pub record IsAdded (nodes : ℕ) (reserves : List Reserve) (n : ℕ) : Type 0 where
  pub in_range : n < nodes
  pub unreserved : is_reserved reserves n ≡ false

-- a later reserve has nodes and edges behind those of an earlier one, and another node that grows
pub record AreApart (q r : Reserve) : Type 0 where
  pub nodes : q.first_node + q.nodes ≤ r.first_node
  pub edges : q.first_edge + q.edges ≤ r.first_edge
  pub growing : q.node ≢ r.node

-- The reserves are among so many nodes, their edges are numbered from `base` on, no two share a
-- node or an edge, and no reserve holds a node that grows or the end of a wire.
pub record AreReserves (nodes base : ℕ) (wires : List Wire) (reserves : List Reserve) : Type 0 where
  pub growing : (k : ℕ) → k < length reserves → IsAdded nodes reserves (reserve_at reserves k).node
  pub nodes_within : (k : ℕ) → k < length reserves
      → (reserve_at reserves k).first_node + (reserve_at reserves k).nodes ≤ nodes
  pub edges_behind : (k : ℕ) → k < length reserves → base ≤ (reserve_at reserves k).first_edge
  pub edges_within : (k : ℕ) → k < length reserves
      → (reserve_at reserves k).first_edge + (reserve_at reserves k).edges
      ≤ base + reserved_edges reserves
  pub apart : (j k : ℕ) → j < k → k < length reserves
      → AreApart (reserve_at reserves j) (reserve_at reserves k)
  pub from_added : (e : ℕ) → e < length wires → IsAdded nodes reserves (wire_at wires e).from
  pub to_added : (e : ℕ) → e < length wires → IsAdded nodes reserves (wire_at wires e).to

-- the reserve of a finished graph, whose reserved edges follow its wires
abbrev pub behind_wires : ℕ → Reserve → Reserve
behind_wires wires r = record r { first_edge = wires + r.first_edge }

abbrev pub StartsAs : (reserved : Bool) → BoxPicture → Type 0
StartsAs true p = IsBlank p
StartsAs false p = IsFresh p

-- the box of each node that no reserve holds is fresh, and each other one is blank
abbrev pub AreStarting : List Reserve → List BoxPicture → Type 0
AreStarting reserves boxes =
    (n : ℕ) → n < length boxes → StartsAs (is_reserved reserves n) (slice_index_or boxes n no_box)
