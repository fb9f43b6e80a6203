-- Blocks of nodes that plans are made of.
use Rattle.std.specs.Prelude.{List, [], map, suc, zero, ℕ, ◌+◌, ◌∷◌}
use Rattle.query_model.specs.declared.processor_spec.Spec.{Spec}
use Rattle.plan_laws.specs.declared.nodes.DraftNode.{DraftNode}

-- sources, whose outputs stand behind the open ends
abbrev pub source_nodes : ℕ → List Spec → List DraftNode
source_nodes i [] = []
source_nodes i (s ∷ specs) = record { spec = s; rank = 1; offset = i; takes = 0; gives = 1 }
    ∷ source_nodes (suc i) specs

-- one node in each of so many lanes, the first of them lane i
abbrev pub lane_nodes : Spec → ℕ → ℕ → ℕ → List DraftNode
lane_nodes s rank i zero = []
lane_nodes s rank i (suc k) = record { spec = s; rank = rank; offset = i; takes = 1; gives = 1 }
    ∷ lane_nodes s rank (suc i) k

-- a node that takes the first open ends
abbrev pub joint_node : Spec → ℕ → ℕ → ℕ → DraftNode
joint_node s rank takes gives = record {
  spec = s;
  rank = rank;
  offset = 0;
  takes = takes;
  gives = gives;
}

-- ---- blocks among others

-- the node behind so many other open ends, with a rank that is higher by a number
abbrev pub moved_node : (ends rank : ℕ) → DraftNode → DraftNode
moved_node ends rank node = record {
  spec = node.spec;
  rank = rank + node.rank;
  offset = ends + node.offset;
  takes = node.takes;
  gives = node.gives;
}

abbrev pub moved_nodes : (ends rank : ℕ) → List DraftNode → List DraftNode
moved_nodes ends rank nodes = map (moved_node ends rank) nodes

-- the nodes behind so many other open ends
abbrev pub nodes_behind : ℕ → List DraftNode → List DraftNode
nodes_behind ends nodes = moved_nodes ends 0 nodes

-- the nodes with ranks that are higher by this number
abbrev pub nodes_raised : ℕ → List DraftNode → List DraftNode
nodes_raised rank nodes = moved_nodes 0 rank nodes
