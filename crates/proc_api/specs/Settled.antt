-- What is known of nodes that rest and of their ports, and the wires of a graph by place.
use Rattle.std.specs.Prelude.{◌<◌, ◌≡◌}
use Rattle.proc_api.specs.Prelude.{Flags, List, None, Option, Picture, Some, Status, WaitsForData, WaitsForRoom, Wire, length, slice_index_or, true, ℕ}
use Rattle.port_word.specs.Pictures.{no_wire}

-- A node waits for data or for room, as its last status says and its picture shows. One that was
-- never prepared has an output, and counts as one that waits for room.
abbrev pub Rests : Option Status → Picture → Type 0
Rests (Some Status.NeedData) v = WaitsForData v
Rests (Some Status.PortFull) v = WaitsForRoom v
Rests (Some Status.Ready) v = ⊥
Rests (Some Status.Async) v = ⊥
Rests (Some Status.ExpandPipeline) v = ⊥
Rests (Some Status.Finished) v = ⊥
Rests None v = WaitsForRoom v

-- the producer knows the port's flags, but that it may see a need that was taken back
pub record ProducerKnows (view port : Flags) : Type 0 where
  pub needed : port.needed ≡ true → view.needed ≡ true
  pub has_data : view.has_data ≡ port.has_data
  pub fin_out : view.fin_out ≡ port.fin_out
  pub fin_in : view.fin_in ≡ port.fin_in

unfoldable pub wire_at : List Wire → ℕ → Wire
wire_at wires e = slice_index_or wires e no_wire

-- the wire that ends at an input of a node
pub record HasInputWire (wires : List Wire) (node input : ℕ) : Type 0 where
  pub edge : ℕ
  pub in_range : edge < length wires
  pub to : (wire_at wires edge).to ≡ node
  pub input_is : (wire_at wires edge).input ≡ input

-- the wire that begins at an output of a node
pub record HasOutputWire (wires : List Wire) (node out : ℕ) : Type 0 where
  pub edge : ℕ
  pub in_range : edge < length wires
  pub from : (wire_at wires edge).from ≡ node
  pub out_is : (wire_at wires edge).out ≡ out
