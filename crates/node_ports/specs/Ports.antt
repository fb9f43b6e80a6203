-- What a node has of its ports, and the law that ties it to the node's seat.
use Rattle.std.specs.Prelude.{Bool, List, None, Option, Some, [], false, is_some, length, map, slice_index_or, true, ℕ, ◌++◌, ◌<◌, ◌||◌, ◌≡◌, ◌≢◌}
use Rattle.exec_table.specs.Boards.{no_end}
use Rattle.node_ports.specs.Prelude.{Flags, InputPort, IsDifference, IsEnd, IsPort, IsSound, Lists, NodePorts, NodeSeat, NodeView, Input, Output, Picture, Port, Slots, Table, Updated, Wire, end_of_view, flags_at, has, holds_data, in_count, input_at, is_set, knows, out_count, output_at, peer, port_edge, pushes_to, slot_in, slots, taken_out, view}

-- ---- the picture

-- what the seat knows, the slots that are out with it, the view that the processor gets, the edge
-- and the node at its other end for each port, which inputs the shared ports say are needed, and
-- which ports the node is yet to look at
pub record PortsPicture : Type 0 where
  pub node : NodeView
  pub slots : Slots
  pub view : Picture
  pub inputs : List ℕ
  pub outputs : List ℕ
  pub sources : List ℕ
  pub targets : List ℕ
  pub needed : List Bool
  pub updated : Updated

abbrev pub ports_picture : NodePorts → NodeSeat → PortsPicture
ports_picture p s = record {
  node = view s;
  slots = slots s;
  view = p.view;
  inputs = p.inputs.items;
  outputs = p.outputs.items;
  sources = p.sources.items;
  targets = p.targets.items;
  needed = p.needed.items;
  updated = p.updated;
}

-- whether the port is among the updated ones
abbrev pub is_updated_port : Port → Updated → Bool
is_updated_port (Input i) u = u.first || is_set u.inputs i
is_updated_port (Output o) u = u.first || is_set u.outputs o

-- the updated ports of both
abbrev pub IsMerged : Updated → Updated → Updated → Type 0
IsMerged some more all =
    (p : Port) → is_updated_port p all ≡ (is_updated_port p some || is_updated_port p more)

-- ---- what the seat shows

-- the chunk that was lifted out of a slot, by what the slot has now and what lay in the port: one
-- that was emptied
abbrev pub lifted_of : Option (Option Table) → Option (Option Table) → Option Table
lifted_of (Some None) (Some c) = c
lifted_of s t = None

-- an input, by its edge, as the seat knows it and with the chunk that was lifted out of its slot
abbrev pub input_seen : NodeView → Slots → ℕ → InputPort
input_seen x s e = record {
  flags = flags_at e x.state.seen;
  chunk = lifted_of (slot_in e s) (end_of_view x e).turn;
}

abbrev pub output_seen : NodeView → ℕ → Flags
output_seen x e = flags_at e x.state.seen

-- the picture of the ports as the seat knows them
abbrev pub shown : PortsPicture → Picture
shown c = record {
  inputs = map (input_seen c.node c.slots) c.inputs;
  outputs = map (output_seen c.node) c.outputs;
  actions = [];
}

-- the chunks that the node pulled from or pushed to the port with this number, by the edges of the
-- ports
abbrev pub chunks_on : NodeView → List ℕ → Lists
chunks_on x edges k = slice_index_or (map (λ e. (end_of_view x e).chunks) edges) k []

-- what the processor pulled and pushed: besides, what waits to be carried out
abbrev pub pulled_by : PortsPicture → Lists
pulled_by c i = chunks_on c.node c.inputs i
    ++ taken_out (input_at (shown c) i).chunk (input_at c.view i).chunk

abbrev pub pushed_by : PortsPicture → Lists
pushed_by c o = chunks_on c.node c.outputs o ++ pushes_to o c.view.actions

-- ---- the law

abbrev pub edge_of : PortsPicture → Port → ℕ
edge_of c p = port_edge c.inputs c.outputs p

abbrev pub is_own_port : PortsPicture → Port → Type 0
is_own_port c p = IsPort (length c.inputs) (length c.outputs) p

-- the seat has learned the port's edge, which is at this port of its node
pub record PortKnown (c : PortsPicture) (p : Port) : Type 0 where
  pub known : knows (edge_of c p) c.node.state.seen ≡ true
  pub wire : Wire
  pub is : (end_of_view c.node (edge_of c p)).wire ≡ Some wire
  pub at_port : IsEnd wire c.node.number p
  pub apart : wire.from ≢ wire.to
  pub other : port_edge c.sources c.targets p ≡ peer wire p

-- the edge is that of a port
pub record HasPortOf (c : PortsPicture) (e : ℕ) : Type 0 where
  pub port : Port
  pub there : is_own_port c port
  pub is : edge_of c port ≡ e

-- The ports are those of the edges that the seat has learned, and only updated ones are unlooked.
-- Of another edge the seat has nothing.
-- The view shows them as the seat knows them, but for the actions that wait. An open input with
-- data has its chunk out of the slot, and the slot of an output that was asked for and is empty is
-- out with the seat.
pub record PortsHold (c : PortsPicture) : Type 0 where
  pub known : (p : Port) → is_own_port c p → PortKnown c p
  pub cover : (e : ℕ) → knows e c.node.state.seen ≡ true → HasPortOf c e
  pub bare : (e : ℕ) → knows e c.node.state.seen ≡ false → end_of_view c.node e ≡ no_end
  pub unlooked : (e : ℕ) → has e c.node.state.unlooked ≡ true → knows e c.node.state.seen ≡ true
  pub updated : (p : Port) → is_own_port c p → has (edge_of c p) c.node.state.unlooked ≡ true
      → is_updated_port p c.updated ≡ true
  pub peers : (length c.sources ≡ length c.inputs) × (length c.targets ≡ length c.outputs)
  pub ins : in_count c.view ≡ length c.inputs
  pub outs : out_count c.view ≡ length c.outputs
  pub needed : (i : ℕ) → i < length c.inputs
      → slice_index_or c.needed i false ≡ (flags_at (edge_of c (Input i)) c.node.state.seen).needed
  pub needed_len : length c.needed ≡ length c.inputs
  pub difference : IsDifference (shown c) c.view
  pub sound : IsSound c.view
  pub held : (i : ℕ) → holds_data (input_at (shown c) i).flags ≡ true
      → is_some (input_at (shown c) i).chunk ≡ true
  pub ready : (o : ℕ) → o < length c.outputs → (output_at (shown c) o).needed ≡ true
      → (output_at (shown c) o).has_data ≡ false
      → slot_in (edge_of c (Output o)) c.slots ≡ Some None
