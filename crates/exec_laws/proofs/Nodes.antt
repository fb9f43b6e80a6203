-- Ends of edges, and born nodes.
use Rattle.exec_laws.proofs.Imports.{CellPicture, EdgeState, HoldsGraph, IsBorn, IsSome, List, None, Option, Running, Wire, arith, cases_eq, length, rules, wire_at, ℕ, ◌<◌, ◌≡◌, ◌≢◌}
use Rattle.exec_laws.specs.declared.edges.NodeStatus.TheVariants as node

-- the ends of an edge are two nodes
pub edge_ends_differ : (count : ℕ) (wires : List Wire) → HoldsGraph count wires → (e : ℕ) → e
    < length wires → (wire_at wires e).from ≢ (wire_at wires e).to
edge_ends_differ count wires h1 e h2 = search rules

-- ---- born nodes

pub not-blank : {A : Type 0} (s : Option A) → IsSome s → s ≡ None → ⊥
not-blank s h1 h2 = grind arith

-- a node that isn't unborn is born
pub busy-born : (count : ℕ) (wires : List Wire) (cells : ℕ → CellPicture) (edges : ℕ → EdgeState)
    → Running count wires cells edges → (n : ℕ) → n < count → (cells n).mark.state ≢ node.Unborn
    → IsBorn (cells n).box
busy-born count wires cells edges h1 n h2 h3 = search rules

-- what holds of each node, where it holds of one and of the others
pub at-node : (P : ℕ → Type 0) (n m : ℕ) → P n → (m ≢ n → P m) → P m
at-node P n m here others = grind (arith, cases_eq)
