-- What a core state has at a node, at an edge, and in a node's view. It hands on a state's types.
use Rattle.std.specs.Prelude.{ℕ, ◌+◌, ◌==◌, ◌||◌, ◌&&◌, not, cond, Bool, true, false, nat_lt, nat_le, List, [], ◌∷◌, ◌++◌, map, Option, Some, None, slice_index_or, slice_set}
use Rattle.std.specs.Int.{bit_at}
use Rattle.std.specs.List.{list_any, filter}
use Rattle.chunk_data.specs.Places.{AreOnce}
use Rattle.port_word.specs.Pictures.{no_flags}
pub use Rattle.port_word.specs.declared.flags.Flags.{Flags}
pub use Rattle.port_word.specs.declared.flags.Wire.{Wire}
pub use Rattle.port_word.specs.declared.flags.Reserve.{Reserve}
pub use Rattle.core_laws.specs.declared.types.Sizes.{Sizes}
pub use Rattle.core_laws.specs.declared.types.Sight.{Sight}
pub use Rattle.core_laws.specs.declared.types.PortState.{PortState}
pub use Rattle.core_laws.specs.declared.types.NodeState.{NodeState}
pub use Rattle.core_laws.specs.declared.types.CoreState.{CoreState}

abbrev pub no_port : PortState
no_port = record { flags = no_flags; slot = None; pushed = []; pulled = []; wire = None }

abbrev pub no_node : NodeState
no_node = record { word = 0; held = false; tokens = 0; seen = []; unlooked = []; owes = [] }

abbrev pub node_of : List NodeState → ℕ → NodeState
node_of nodes n = slice_index_or nodes n no_node

abbrev pub port_of : List PortState → ℕ → PortState
port_of ports e = slice_index_or ports e no_port

abbrev pub node_at : CoreState → ℕ → NodeState
node_at c n = node_of c.nodes n

abbrev pub port_at : CoreState → ℕ → PortState
port_at c e = port_of c.ports e

abbrev pub put_node : CoreState → ℕ → NodeState → CoreState
put_node c n nd = record c { nodes = slice_set c.nodes n nd }

abbrev pub put_port : CoreState → ℕ → PortState → CoreState
put_port c e p = record c { ports = slice_set c.ports e p }

abbrev pub list_of_option : Option ℕ → List ℕ
list_of_option None = []
list_of_option (Some x) = x ∷ []

-- ---- sets of edges, as lists

abbrev pub has : ℕ → List ℕ → Bool
has e l = list_any (λ x. x == e) l

-- each is named once
unfoldable pub AreEdgesOnce : List ℕ → Type 0
AreEdgesOnce l = AreOnce l

abbrev pub adding : ℕ → List ℕ → List ℕ
adding e l = cond (has e l) l (l ++ e ∷ [])

abbrev pub without : ℕ → List ℕ → List ℕ
without e l = filter (λ d. not (d == e)) l

-- ---- sights

abbrev pub edges_of : List Sight → List ℕ
edges_of l = map (λ (s : Sight). s.edge) l

abbrev pub knows : ℕ → List Sight → Bool
knows e l = has e (edges_of l)

-- an edge that the node hasn't learned is seen with no flag
abbrev pub flags_at : ℕ → List Sight → Flags
flags_at e [] = no_flags
flags_at e (f ∷ fs) = cond (f.edge == e) f.flags (flags_at e fs)

abbrev pub seeing : ℕ → Flags → List Sight → List Sight
seeing e f [] = []
seeing e f (g ∷ gs) = cond (g.edge == e) (record g { flags = f } ∷ gs) (g ∷ seeing e f gs)

-- ---- ends of edges: true is the consumer

abbrev pub end_of : Bool → Wire → ℕ
end_of true w = w.to
end_of false w = w.from

abbrev pub bit_of : Bool → Wire → ℕ
bit_of true w = w.input
bit_of false w = 32 + w.out

abbrev pub is_end : Bool → ℕ → Option Wire → Bool
is_end b n None = false
is_end b n (Some w) = end_of b w == n

abbrev pub names : ℕ → Option Wire → Bool
names n x = is_end true n x || is_end false n x

-- ---- words

abbrev pub is_set : ℕ → ℕ → Bool
is_set w k = bit_at w k == 1

abbrev pub is_unborn : ℕ → Bool
is_unborn w = is_set w 61

abbrev pub is_over : ℕ → Bool
is_over w = is_set w 63

-- 1 for the word of a charged or held node
abbrev pub counts : ℕ → ℕ
counts w = cond (w == 0) 0 (cond (is_unborn w) 0 (cond (is_over w) 0 1))

-- ---- wires and reserves

-- two nodes, at ports within the limits
abbrev pub wire_ok : ℕ → Wire → Bool
wire_ok nodes w = not (w.to == w.from) && ((nat_lt w.from nodes && nat_lt w.to nodes) &&
    (nat_lt w.out 16 && nat_lt w.input 32))

abbrev pub of_reserve : ℕ → Reserve → Bool
of_reserve n r = (n == r.node) || (nat_le r.first_node n && nat_lt n (r.first_node + r.nodes))

abbrev pub edge_in : ℕ → Reserve → Bool
edge_in e r = nat_le r.first_edge e && nat_lt e (r.first_edge + r.edges)

-- the edge is in a reserve whose nodes, or whose expander, the wire joins
abbrev pub may_wire : List Reserve → ℕ → Wire → Bool
may_wire rs e w = list_any (λ r. edge_in e r && (of_reserve w.from r && of_reserve w.to r)) rs

abbrev pub reserved_edge_count : List Reserve → ℕ
reserved_edge_count [] = 0
reserved_edge_count (r ∷ rs) = r.edges + reserved_edge_count rs
