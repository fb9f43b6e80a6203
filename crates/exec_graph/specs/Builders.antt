-- What a call leaves of the builder of a graph.
use Rattle.std.specs.Prelude.{List, [], length, replicate, ℕ, ◌++◌, ◌+◌, ◌<◌, ◌∷◌, ◌≡◌, ◌≢◌, ◌≤◌}
use Rattle.exec_graph.specs.declared.graph.GraphBuilder.{GraphBuilder}
use Rattle.port_word.specs.declared.flags.Reserve.{Reserve}
use Rattle.port_word.specs.declared.flags.Wire.{Wire}
use Rattle.proc_api.specs.Graphs.{reserved_edges}
use Rattle.proc_api.specs.Reserves.{IsAdded, reserve_at}

module _ {X : Type 0} {Y : X → Type 0} where
  -- it has these ranks, wires and reserves
  abbrev pub HasParts : GraphBuilder X Y → List ℕ → List Wire → List Reserve → Type 0
  HasParts b ranks wires reserves =
      (b.ranks ≡ ranks) × (b.wires ≡ wires) × (b.reserves ≡ reserves)

  abbrev pub IsUnchanged : (old new : GraphBuilder X Y) → Type 0
  IsUnchanged old new =
      (new.boxes.items ≡ old.boxes.items) × HasParts new old.ranks old.wires old.reserves

  -- the node came by a call, and nothing is kept for it
  pub record MayReserve (b : GraphBuilder X Y) (node : ℕ) : Type 0 where
    pub added : IsAdded (length b.ranks) b.reserves node
    pub none_kept : (k : ℕ) → k < length b.reserves → (reserve_at b.reserves k).node ≢ node

  -- so many unborn nodes and so many edges, for which there is room, are kept for the node
  pub record AddsReserve (old new : GraphBuilder X Y) (node nodes edges : ℕ) : Type 0 where
    pub few_nodes : length old.ranks + nodes ≤ 256
    pub few_edges : length old.wires + reserved_edges old.reserves + edges ≤ 1024
    pub parts : HasParts new (old.ranks ++ replicate nodes 0) old.wires (old.reserves ++ record {
      node = node;
      first_node = length old.ranks;
      nodes = nodes;
      first_edge = reserved_edges old.reserves;
      edges = edges;
    } ∷ [])
