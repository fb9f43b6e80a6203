-- The ports of a node with more of them, at edges that it hadn't learned.
use Rattle.std.specs.Prelude.{Bool, List, Some, [], cond, false, length, not, true, ℕ, ◌+◌, ◌++◌, ◌<◌, ◌==◌, ◌||◌, ◌∷◌, ◌≡◌, ◌≢◌, ◌≤◌, ⊤}
use Rattle.core_laws.specs.Views.{flags_at, has, knows, may_wire, wire_ok}
use Rattle.core_laws.specs.declared.types.Sizes.{Sizes}
use Rattle.core_laws.specs.declared.types.Step.TheVariants as step
use Rattle.exec_table.specs.Known.{IsSameAt, end_wired}
use Rattle.exec_table.specs.Ready.{ready}
use Rattle.exec_table.specs.declared.rule.NodeSeat.{NodeSeat}
use Rattle.exec_table.specs.declared.types.NodeView.{NodeView}
use Rattle.exec_table.specs.Seats.{end_of_view, view}
use Rattle.exec_laws.specs.Names.{HasEdge, IsEnd, peer}
use Rattle.exec_laws.specs.Prelude.{input_count, output_count}
use Rattle.node_cells.specs.NewCells.{port_of_side}
use Rattle.node_ports.specs.Actions.{SameLists}
use Rattle.node_ports.specs.Ports.{PortsHold, PortsPicture, edge_of, is_own_port}
use Rattle.node_ports.specs.declared.ports.NodePorts.{NodePorts}
use Rattle.port_word.specs.Names.{after_grow, no_flags}
use Rattle.port_word.specs.declared.flags.Port.{Port}
use Rattle.port_word.specs.declared.flags.Port.TheVariants.{Input, Output}
use Rattle.port_word.specs.declared.flags.Wire.{Wire}
unfoldable use Rattle.proc_api.specs.Names.{wire_at}

-- ---- one more

-- a list of one of each input, or of each output, with one more behind where the port is such a one
abbrev pub with_input : {A : Type 0} → Port → List A → A → List A
with_input (Input i) xs x = xs ++ x ∷ []
with_input (Output o) xs x = xs

abbrev pub with_output : {A : Type 0} → Port → List A → A → List A
with_output (Input i) xs x = xs
with_output (Output o) xs x = xs ++ x ∷ []

-- the port comes next at its side, and the node has room for it
abbrev pub IsNextPort : Port → NodePorts → Type 0
IsNextPort (Input i) x =
    (i ≡ length x.inputs.items) × ((i < 32) × (length x.outputs.items ≤ 16))
IsNextPort (Output o) x =
    (o ≡ length x.outputs.items) × ((length x.inputs.items ≤ 32) × (o < 16))

-- the ports have one more, p, at the edge e, at whose other end this node is; the node is to look
-- at all of them
pub record AddsPort (p : Port) (e other : ℕ) (old new : NodePorts) : Type 0 where
  pub inputs : new.inputs.items ≡ with_input p old.inputs.items e
  pub outputs : new.outputs.items ≡ with_output p old.outputs.items e
  pub sources : new.sources.items ≡ with_input p old.sources.items other
  pub targets : new.targets.items ≡ with_output p old.targets.items other
  pub needed : new.needed.items ≡ with_input p old.needed.items false
  pub view : new.view
      ≡ after_grow old.view (length new.inputs.items) (length new.outputs.items)
  pub first : new.updated.first ≡ true

-- an output's edge gets its wire from the node; an input's has it, and the node learns of it
abbrev pub MayLearn : Port → ℕ → Wire → NodeView → Type 0
MayLearn (Input i) e w x = ⊤
MayLearn (Output o) e w x = ready x (step.Wire e w) ≡ true

-- the node has learned the edge e, which has the wire w, and is to look at it
pub record Learns (e : ℕ) (w : Wire) (old new : NodeSeat) : Type 0 where
  pub number : (view new).number ≡ (view old).number
  pub stage : (view new).stage ≡ (view old).stage
  pub held : (view new).state.held ≡ (view old).state.held
  pub tokens : (view new).state.tokens ≡ (view old).state.tokens
  pub owes : (view new).state.owes ≡ (view old).state.owes
  pub known : (f : ℕ)
      → knows f (view new).state.seen ≡ (knows f (view old).state.seen || (e == f))
  pub unlooked : (f : ℕ)
      → has f (view new).state.unlooked ≡ (has f (view old).state.unlooked || (e == f))
  pub flags : flags_at e (view new).state.seen ≡ no_flags
  pub end : end_of_view (view new) e ≡ end_wired (Some w) (end_of_view (view old) e)
  pub others : (f : ℕ) → f ≢ e → IsSameAt old new f

-- ---- more of them

-- no action waits
pub record MayGain (c : PortsPicture) : Type 0 where
  pub holds : PortsHold c
  pub quiet : c.view.actions ≡ []

-- The node has its ports as before, and maybe more behind them. What it pulled and pushed is what
-- it was, and so is all that isn't of its ports.
pub record Gains (c d : PortsPicture) : Type 0 where
  pub may : MayGain d
  pub lists : SameLists c d
  pub inputs : length c.inputs ≤ length d.inputs
  pub outputs : length c.outputs ≤ length d.outputs
  pub edges : (q : Port) → is_own_port c q → edge_of d q ≡ edge_of c q
  pub wires : (q : Port) → is_own_port c q
      → (end_of_view d.node (edge_of c q)).wire ≡ (end_of_view c.node (edge_of c q)).wire
  pub view : d.view ≡ after_grow c.view (length d.inputs) (length d.outputs)
  pub number : d.node.number ≡ c.node.number
  pub stage : d.node.stage ≡ c.node.stage
  pub held : d.node.state.held ≡ c.node.state.held
  pub tokens : d.node.state.tokens ≡ c.node.state.tokens
  pub owes : d.node.state.owes ≡ c.node.state.owes

-- it has one more, p, which was its next one, at the edge e with the wire w
pub record GainsPort (p : Port) (e : ℕ) (w : Wire) (c d : PortsPicture) : Type 0 where
  pub gains : Gains c d
  pub at_port : IsEnd w d.node.number p
  pub apart : w.from ≢ w.to
  pub wire : (end_of_view d.node e).wire ≡ Some w
  pub known : (f : ℕ) → knows f d.node.state.seen ≡ (knows f c.node.state.seen || (e == f))
  pub inputs : d.inputs ≡ with_input p c.inputs e
  pub outputs : d.outputs ≡ with_output p c.outputs e
  pub sources : d.sources ≡ with_input p c.sources (peer w p)
  pub targets : d.targets ≡ with_output p c.targets (peer w p)
  pub first : d.updated.first ≡ true

-- ---- all of a side among wires

-- the edges at the inputs, or at the outputs
abbrev pub edges_on : Bool → PortsPicture → List ℕ
edges_on consumer c = cond consumer c.inputs c.outputs

-- how many of the wires end at the node, or begin at it
abbrev pub end_count : Bool → List Wire → ℕ → ℕ
end_count consumer wires n = cond consumer (input_count wires n) (output_count wires n)

-- the edges from `first` on, in order, may get these wires: a reserve has them, and the wires join
-- its nodes
pub record AreReservedWires (z : Sizes) (first : ℕ) (wires : List Wire) : Type 0 where
  pub sound : (k : ℕ) → k < length wires → wire_ok z.nodes (wire_at wires k) ≡ true
  pub reserved : (k : ℕ) → k < length wires
      → may_wire z.reserves (first + k) (wire_at wires k) ≡ true

-- the port has an edge of one of the wires, which the edges from `first` on have in order
pub record HasNewWire (first : ℕ) (wires : List Wire) (c : PortsPicture) (p : Port) : Type 0 where
  pub place : ℕ
  pub has_edge : HasEdge wires c.node.number p place
  pub edge_is : edge_of c p ≡ first + place
  pub wire_is : (end_of_view c.node (edge_of c p)).wire ≡ Some (wire_at wires place)

-- the node has so many more inputs, or outputs, each of which has one of the wires
pub record GainsPorts (consumer : Bool) (first : ℕ) (wires : List Wire) (count : ℕ)
    (c d : PortsPicture) : Type 0 where
  pub gains : Gains c d
  pub more : length (edges_on consumer d) ≡ length (edges_on consumer c) + count
  pub others : edges_on (not consumer) d ≡ edges_on (not consumer) c
  pub each : (k : ℕ) → length (edges_on consumer c) ≤ k → k < length (edges_on consumer d)
      → HasNewWire first wires d (port_of_side consumer k)
