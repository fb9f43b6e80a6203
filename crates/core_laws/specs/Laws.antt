-- The laws of a state, in three groups that can be used apart: edges and the sights of their ends,
-- which speak of no node word; node words, views and told changes; tokens and the pending number.
use Rattle.std.specs.Prelude.{Bool, List, None, Option, Some, [], false, is_some, length, nat_lt, not, slice_index_or, true, ℕ, ◌&&◌, ◌++◌, ◌+◌, ◌<◌, ◌==◌, ◌||◌, ◌≡◌, ◌≢◌, ◌≤◌}
use Rattle.std.specs.List.{sum_by}
use Rattle.core_laws.specs.Views.{AreEdgesOnce, CoreState, Flags, NodeState, PortState, Sizes, Wire, bit_of, counts, edges_of, end_of, flags_at, has, is_over, is_set, knows, list_of_option, may_wire, names, node_of, port_of, reserved_edge_count, wire_ok}
use Rattle.port_word.specs.Pictures.{no_flags, no_wire}
use Rattle.core_laws.specs.Start.{fits}

-- ---- edges

-- what was pushed is what was pulled and then what lies in the slot
pub record Content (p : PortState) : Type 0 where
  pub chunks : p.pushed ≡ p.pulled ++ list_of_option p.slot
  pub has_data : p.flags.has_data ≡ is_some p.slot

-- what a consumer's sight f says of the word's flags p
pub record ConsumerSees (p f : Flags) : Type 0 where
  pub needed : f.needed ≡ p.needed
  pub fin_in : f.fin_in ≡ p.fin_in
  pub fin_out : f.fin_out ≡ true → p.fin_out ≡ true
  pub has_data : f.has_data ≡ true → p.has_data ≡ true
  pub ended : f.fin_out ≡ true → f.has_data ≡ false → p.has_data ≡ false

pub record ProducerSees (p f : Flags) : Type 0 where
  pub fin_out : f.fin_out ≡ p.fin_out
  pub fin_in : f.fin_in ≡ true → p.fin_in ≡ true
  pub has_data : f.has_data ≡ false → p.has_data ≡ false

-- an end that hasn't learned its port sees no flag, so this says too which ones are unset till then
abbrev pub Sees : Bool → Flags → Flags → Type 0
Sees true p f = ConsumerSees p f
Sees false p f = ProducerSees p f

-- the wires of the sizes stay; a reserved edge has none, or one within its reserve
pub record WireHolds (s : Sizes) (e : ℕ) (x : Option Wire) : Type 0 where
  pub sound : (w : Wire) → x ≡ Some w → wire_ok s.nodes w ≡ true
  pub fixed : e < length s.wires → x ≡ Some (slice_index_or s.wires e no_wire)
  pub placed : length s.wires ≤ e → (w : Wire) → x ≡ Some w → may_wire s.reserves e w ≡ true

pub record EdgeHolds (s : Sizes) (nodes : List NodeState) (e : ℕ) (p : PortState) : Type 0 where
  pub wired : WireHolds s e p.wire
  pub content : Content p
  pub bare : p.wire ≡ None → (p.flags ≡ no_flags) × (p.pushed ≡ [])
  pub sees : (b : Bool) (w : Wire) → p.wire ≡ Some w
      → Sees b p.flags (flags_at e (node_of nodes (end_of b w)).seen)
  pub learned : (n : ℕ) → knows e (node_of nodes n).seen ≡ true → names n p.wire ≡ true

-- there is a port for each edge, and no node has learned another
pub record Edges (c : CoreState) : Type 0 where
  pub count : length c.ports ≡ length c.sizes.wires + reserved_edge_count c.sizes.reserves
  pub known : (n e : ℕ) → knows e (node_of c.nodes n).seen ≡ true → e < length c.ports
  pub each : (e : ℕ) → e < length c.ports → EdgeHolds c.sizes c.nodes e (port_of c.ports e)

-- ---- nodes

-- the bits that a node word may have
abbrev pub is_node_bit : ℕ → Bool
is_node_bit k = nat_lt k 48 || ((k == 60) || ((k == 61) || ((k == 62) || (k == 63))))

-- the word of a node whose view says that it is held, or that it isn't; of the bits first, unborn,
-- held and over at most one is set
pub record WordHolds (w : ℕ) (on : Bool) : Type 0 where
  pub held : is_set w 62 ≡ on
  pub lone : (i j : ℕ) → 60 ≤ i → 60 ≤ j → i ≢ j → is_set w i ≡ true → is_set w j ≡ false
  pub bits : (k : ℕ) → is_set w k ≡ true → is_node_bit k ≡ true

-- a node owes only while it is held; it owes and is to look at what it has learned, each edge once
pub record NodeStateHolds (nd : NodeState) : Type 0 where
  pub word : WordHolds nd.word nd.held
  pub owes : (e : ℕ) → has e nd.owes ≡ true → (nd.held && knows e nd.seen) ≡ true
  pub unlooked : (e : ℕ) → has e nd.unlooked ≡ true → knows e nd.seen ≡ true
  pub each_once : AreEdgesOnce (edges_of nd.seen) × AreEdgesOnce nd.unlooked × AreEdgesOnce nd.owes

-- an end that sees f lacks a change of the flags p that it is to be told
abbrev pub lacks : Bool → Flags → Flags → Bool
lacks true p f = (p.has_data && not f.has_data) || (p.fin_out && not f.fin_out)
lacks false p f = (p.needed && not f.needed)
    || ((p.fin_in && not f.fin_in) || (f.has_data && not p.has_data))

-- the end of the edge e with the bit k may lack a change: it is over, its word has the bit, or it
-- hasn't learned the edge or is yet to look at it
abbrev pub is_excused : NodeState → ℕ → ℕ → Bool
is_excused nd e k = (is_over nd.word || is_set nd.word k)
    || (not (knows e nd.seen) || has e nd.unlooked)

-- the end b of the edge e, the node x, lacks a change only if it is excused or its peer y owes it
abbrev pub EndTold : NodeState → NodeState → ℕ → Flags → Bool → Wire → Type 0
EndTold x y e p b w = lacks b p (flags_at e x.seen) ≡ true
    → (is_excused x e (bit_of b w) || has e y.owes) ≡ true

abbrev pub EndsAreTold : List NodeState → ℕ → Option Wire → Flags → Type 0
EndsAreTold nodes e wire p = (b : Bool) (w : Wire) → wire ≡ Some w
    → EndTold (node_of nodes (end_of b w)) (node_of nodes (end_of (not b) w)) e p b w

pub record Nodes (c : CoreState) : Type 0 where
  pub number : length c.nodes ≡ c.sizes.nodes
  pub each : (n : ℕ) → NodeStateHolds (node_of c.nodes n)
  pub told : (e : ℕ) → e < length c.ports
      → EndsAreTold c.nodes e (port_of c.ports e).wire (port_of c.ports e).flags

-- ---- tokens

abbrev pub weight : NodeState → ℕ
weight nd = nd.tokens + counts nd.word

pub record TokensHold (c : CoreState) : Type 0 where
  pub pending : c.pending ≡ sum_by weight c.nodes
  pub few : (n : ℕ) → (node_of c.nodes n).tokens ≤ 2

-- ---- all laws

pub record Laws (c : CoreState) : Type 0 where
  pub fit : fits c.sizes ≡ true
  pub edges : Edges c
  pub nodes : Nodes c
  pub tokens : TokensHold c

-- what an end knows of a port once all changes were told and seen; a producer may see a need that
-- was taken back
abbrev pub Knows : Bool → Flags → Flags → Type 0
Knows true view port = view ≡ port
Knows false view port = (port.needed ≡ true → view.needed ≡ true) × (view.has_data ≡ port.has_data)
    × (view.fin_out ≡ port.fin_out) × (view.fin_in ≡ port.fin_in)
