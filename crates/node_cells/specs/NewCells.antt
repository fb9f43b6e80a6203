-- Cells made of the seats of a new table.
use Rattle.std.specs.Prelude.{Bool, List, None, false, length, map, replicate, true, ℕ, ◌&&◌, ◌+◌, ◌<◌, ◌==◌, ◌≡◌, ◌≤◌}
use mathlib.Core.Option.{some}
use lib.ListN.{get_elem?}
use Rattle.core_laws.specs.declared.types.Sizes.{Sizes}
use Rattle.exec_table.specs.Seats.{IsRootOf, identity_of, sizes_in}
use Rattle.exec_table.specs.declared.types.Updated.{Updated}
use Rattle.exec_laws.specs.Names.{HasEdge, IsPort, number_at, peer}
use Rattle.exec_laws.specs.Prelude.{Reserve, input_count, new_picture, output_count}
use Rattle.exec_laws.specs.declared.edges.NodeStatus.TheVariants as node
use Rattle.port_word.specs.declared.flags.Port.TheVariants.{Input, Output}
use Rattle.proc_api.specs.Graphs.{IsGraph}
use Rattle.proc_api.specs.Reserves.{AreReserves, is_reserved}
use Rattle.node_ports.specs.declared.ports.NodePorts.{NodePorts}
use Rattle.node_cells.specs.Prelude.{BoxPicture, Identity, NodeCell, NodeMark, NodeSeat, Port, Wire, view}
use Rattle.node_cells.specs.Cells.{cell_ports}
use Rattle.node_cells.specs.Ends.{HasPlaces}
use Rattle.node_cells.specs.NewReserves.{IsNewReserve}
use Rattle.node_cells.specs.Stored.{IsStored}
use Rattle.node_cells.specs.declared.new_cells.Cells.{Cells}
use Rattle.node_cells.specs.declared.new_cells.NewNode.{NewNode}
unfoldable use Rattle.proc_api.specs.Names.{wire_at}

-- the wires and the reserves are those of a graph of so many nodes
pub record IsGraphOfNodes (nodes : ℕ) (wires : List Wire) (reserves : List Reserve) : Type 0 where
  pub ranks : List ℕ
  pub graph : IsGraph ranks wires reserves
  pub nodes_are : nodes ≡ length ranks
  pub reserves_are : AreReserves nodes (length wires) wires reserves

-- the sizes of the table for it, which has besides the workers the caller, who ends the run
abbrev pub sizes_of : ℕ → List Wire → List Reserve → ℕ → Sizes
sizes_of nodes wires reserves workers = record {
  nodes = nodes;
  wires = wires;
  reserves = reserves;
  workers = workers + 1;
}

-- ---- the ports of a node

-- the port of this number at the consumer's side of a node, or at the producer's
abbrev pub port_of_side : Bool → ℕ → Port
port_of_side true k = Input k
port_of_side false k = Output k

-- an edge ends at the port
abbrev pub HasEdgeAt : List Wire → ℕ → Port → Type 0
HasEdgeAt wires n p = (e : ℕ) × HasEdge wires n p e

-- whether the wire ends at the port
abbrev pub ends_at : Wire → ℕ → Port → Bool
ends_at w n (Input i) = (w.to == n) && (w.input == i)
ends_at w n (Output o) = (w.from == n) && (w.out == o)

-- each port of the node has an edge, and they are within the limits
pub record HasPortsWithinLimits (wires : List Wire) (n : ℕ) : Type 0 where
  pub few_edges : length wires ≤ 1024
  pub few_inputs : input_count wires n ≤ 32
  pub few_outputs : output_count wires n ≤ 16
  pub each : (p : Port) → IsPort (input_count wires n) (output_count wires n) p
      → HasEdgeAt wires n p

-- the edges at the first k ports of a side, and the nodes at their other ends
pub record AreEdgesAndPeers (wires : List Wire) (n : ℕ) (consumer : Bool) (k : ℕ)
    (edges peers : List ℕ) : Type 0 where
  pub edges_len : length edges ≡ k
  pub peers_len : length peers ≡ k
  pub each : (i : ℕ) → i < k → HasEdge wires n (port_of_side consumer i) (number_at edges i)
  pub others : (i : ℕ) → i < k
      → number_at peers i ≡ peer (wire_at wires (number_at edges i)) (port_of_side consumer i)

-- a node that never began is yet to look at all its ports
abbrev pub all_updated : Updated
all_updated = record { inputs = 0; outputs = 0; first = true }

-- the ports of a node whose seat was just made
pub record AreNewPorts (wires : List Wire) (n : ℕ) (p : NodePorts) : Type 0 where
  pub view : p.view ≡ new_picture (input_count wires n) (output_count wires n)
  pub inputs : AreEdgesAndPeers wires n true (input_count wires n) p.inputs.items p.sources.items
  pub outputs : AreEdgesAndPeers wires n false (output_count wires n) p.outputs.items
      p.targets.items
  pub needed : p.needed.items ≡ replicate (input_count wires n) false
  pub updated : p.updated ≡ all_updated

-- ---- cells

-- a node that a reserve holds isn't born, and each other one is due
abbrev pub first_mark : (reserved : Bool) → NodeMark
first_mark true = record { state = node.Unborn; last = None }
first_mark false = record { state = node.Due; last = None }

pub record IsNewNodeAt (ranks : List ℕ) (wires : List Wire) (reserves : List Reserve)
    (boxes : List BoxPicture) (n : ℕ) (x : NewNode) : Type 0 where
  pub ports : AreNewPorts wires n x.ports
  pub mark : x.mark ≡ first_mark (is_reserved reserves n)
  pub reserve : IsNewReserve ranks reserves boxes n x.reserve

abbrev pub AreNewNodes : List ℕ → List Wire → List Reserve → List BoxPicture → List NewNode
    → Type 0
AreNewNodes ranks wires reserves boxes all = (k : ℕ) (x : NewNode) → get_elem? all k ≡ some x
    → IsNewNodeAt ranks wires reserves boxes k x

abbrev pub node_of_cell : {P : Type 0} → NodeCell P → NewNode
node_of_cell c = record { ports = c.ports; mark = c.mark; reserve = c.reserve }

-- each cell has the processor, the node and the seat at its place
pub record Fills {P : Type 0} (cells : List (NodeCell P)) (boxes : List P) (nodes : List NewNode)
    (seats : List NodeSeat) : Type 0 where
  pub processors : map (λ (c : NodeCell P). c.processor) cells ≡ boxes
  pub nodes_are : map node_of_cell cells ≡ nodes
  pub seats_are : map (λ (c : NodeCell P). c.seat) cells ≡ seats

-- each cell has all of its node's reserve
abbrev pub AreNewReserves : {P : Type 0} → List ℕ → List Reserve → List BoxPicture
    → List (NodeCell P) → Type 0
AreNewReserves {P} ranks reserves boxes cells = (k : ℕ) (x : NodeCell P)
    → get_elem? cells k ≡ some x → IsNewReserve ranks reserves boxes k x.reserve

-- the cell of node n of a new table
pub record IsNewCell {P : Type 0} (seen : P → BoxPicture) (t : Identity) (n : ℕ)
    (c : NodeCell P) : Type 0 where
  pub stored : IsStored seen t c
  pub number : (view c.seat).number ≡ n
  pub mark : c.mark ≡ first_mark (is_reserved t.sizes.reserves n)
  pub places : HasPlaces t.sizes.wires (λ e. e) n c.ports.inputs.items c.ports.outputs.items
      (cell_ports c)

-- a new table of these sizes, its root, of which no worker was made, and the cells of its nodes in
-- order of their numbers, with these processors
pub record AreNewCells {P : Type 0} (seen : P → BoxPicture) (z : Sizes) (boxes : List P)
    (c : Cells P) : Type 0 where
  pub key : sizes_in c.table ≡ z
  pub root : IsRootOf (identity_of c.table) c.root
  pub none_made : c.root.seat.me.0.made ≡ 0
  pub processors : map (λ (x : NodeCell P). x.processor) c.cells.items ≡ boxes
  pub each : (k : ℕ) (x : NodeCell P) → get_elem? c.cells.items k ≡ some x
      → IsNewCell seen (identity_of c.table) k x
