-- What the seats of a table of two nodes and one edge, or three edges, know.
use Rattle.std.specs.Prelude.{◌≡◌, ℕ, ◌==◌, ◌||◌, cond, Bool, true, false, is_some, List, [], ◌∷◌, map, Option, Some, None}
use Rattle.core_laws.specs.Start.{fresh_sight}
use Rattle.core_laws.specs.Views.{without}
use Rattle.port_word.specs.Pictures.{no_flags}
use Rattle.exec_table.specs.CoreNames.{Chunk, Flags, NodeState, Sizes, Wire}
use Rattle.exec_table.specs.Boards.{fits_end}
use Rattle.exec_table.specs.Ready.{end_of_view}
use Rattle.exec_table.specs.Seats.{Identity, IsSeatOf, identity_of, sizes_in, slot_of, slots, view}
pub use Rattle.exec_table.specs.declared.rule.ExecTable.{ExecTable}
pub use Rattle.exec_table.specs.declared.rule.NodeSeat.{NodeSeat}
pub use Rattle.exec_table.specs.declared.types.Stage.TheVariants.{Born}
use Rattle.exec_table.specs.declared.types.Updated.{Updated}

-- the edge e goes from the output e of node 0 to the input e of node 1
abbrev pub edge_wire : ℕ → Wire
edge_wire e = record { from = 0; out = e; to = 1; input = e }

-- one edge, or three
abbrev pub edges_in : Bool → List ℕ
edges_in false = 0 ∷ []
edges_in true = 0 ∷ 1 ∷ 2 ∷ []

abbrev pub test_sizes : Bool → Sizes
test_sizes many = record {
  nodes = 2;
  wires = map edge_wire (edges_in many);
  reserves = [];
  workers = 1;
}

-- a node that hasn't begun, with these tokens
abbrev pub idle : Bool → ℕ → NodeState
idle many tokens = record {
  word = 0;
  held = false;
  tokens = tokens;
  seen = map fresh_sight (edges_in many);
  unlooked = edges_in many;
  owes = [];
}

-- the node n at the start
pub record IsStartNode (many : Bool) (n : ℕ) (t : Identity) (s : NodeSeat) : Type 0 where
  pub sizes : t.sizes ≡ test_sizes many
  pub seat : IsSeatOf t s
  pub number : (view s).number ≡ n
  pub state : (view s).state ≡ idle many 0
  pub stage : (view s).stage ≡ Born
  pub slots : slots s ≡ []

abbrev pub seen_as : Bool → Bool → Flags
seen_as needed has_data = record no_flags { needed = needed; has_data = has_data }

-- a node that has learned the edge, and owes it where `owes` says so
abbrev pub node : Bool → ℕ → Flags → List ℕ → Bool → NodeState
node held tokens flags unlooked owes = record {
  word = 0;
  held = held;
  tokens = tokens;
  seen = record { edge = 0; flags = flags } ∷ [];
  unlooked = unlooked;
  owes = cond owes (0 ∷ []) [];
}

-- the seat of the node n of such a table, which is in this state
pub record Is (n : ℕ) (st : NodeState) (t : ExecTable) (s : NodeSeat) : Type 0 where
  pub pair : sizes_in t ≡ test_sizes false
  pub seat : IsSeatOf (identity_of t) s
  pub number : (view s).number ≡ n
  pub state : (view s).state ≡ st

-- held, with so many tokens, and owes nothing
pub record IsHeld (n tokens : ℕ) (t : ExecTable) (s : NodeSeat) : Type 0 where
  pub flags : Flags
  pub unlooked : List ℕ
  pub only : without 0 unlooked ≡ []
  pub is : Is n (node true tokens flags unlooked false) t s

-- held, after a look that saw these flags; a slot that is out has what the end may take
pub record Saw (n tokens : ℕ) (flags : Flags) (t : ExecTable) (s : NodeSeat) : Type 0 where
  pub is : Is n (node true tokens flags [] false) t s
  pub wire : (end_of_view (view s) 0).wire ≡ Some (edge_wire 0)
  pub fits : (v : Option Chunk) → slot_of s 0 ≡ Some v → fits_end (1 == n) v ≡ true

-- whether a slot is out, and has a chunk
abbrev pub content : Option (Option Chunk) → Option Bool
content None = None
content (Some x) = Some (is_some x)

-- the node's word was not 0
abbrev pub was_charged : Updated → Bool
was_charged u = u.first || (u.outputs == 1)
