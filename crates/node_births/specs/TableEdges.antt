-- The wires of a table's edges. Those of the graph have the numbers from 0 on, and those by which
-- the node of a reserve grew follow each other from the reserve's first edge on.
use Rattle.std.specs.Prelude.{List, length, ℕ, ◌+◌, ◌++◌, ◌≡◌, ◌⊎◌}
use Rattle.exec_laws.specs.Prelude.{input_count, output_count}
use Rattle.node_births.specs.MorePorts.{HasNewWire}
use Rattle.node_ports.specs.Ports.{PortsPicture, is_own_port}
use Rattle.port_word.specs.declared.flags.Port.{Port}
use Rattle.port_word.specs.declared.flags.Wire.{Wire}

-- the wires of the edges from this number on, in order
pub record EdgeRange : Type 0 where
  pub first : ℕ
  pub wires : List Wire

-- the same with more wires, which follow
abbrev pub longer_range : EdgeRange → List Wire → EdgeRange
longer_range r more = record { first = r.first; wires = r.wires ++ more }

-- each port of the node has one of the wires
pub record HasWiresOf (graph grown : EdgeRange) (c : PortsPicture) : Type 0 where
  pub each : (p : Port) → is_own_port c p
      → HasNewWire graph.first graph.wires c p ⊎ HasNewWire grown.first grown.wires c p

-- and the node has all of them that end at it
pub record HasAllWiresOf (graph grown : EdgeRange) (c : PortsPicture) : Type 0 where
  pub some : HasWiresOf graph grown c
  pub ins : length c.inputs
      ≡ input_count graph.wires c.node.number + input_count grown.wires c.node.number
  pub outs : length c.outputs
      ≡ output_count graph.wires c.node.number + output_count grown.wires c.node.number
