-- The cells of all nodes at home, and a survey of the table in which nothing is pending.
use Rattle.std.specs.Prelude.{List, None, Option, Some, [], false, length, ℕ, ◌<◌, ◌≡◌}
use Rattle.node_cells.specs.Prelude.{BoxPicture, CellPicture, NodeMark, Port, Table, Wire, end_of_view, slot_in}
use Rattle.std.specs.Prelude.{map, slice_index_or}
use Rattle.port_word.specs.Names.{new_picture}
use Rattle.exec_table.specs.Plays.{no_node_view}
use Rattle.proc_api.specs.Names.{no_box}
use Rattle.exec_laws.specs.Names.{ContradictsStatus, IsDone, IsStuck, SupportsStatus, boxes_of, cell_at, stuck_from}
use Rattle.exec_laws.specs.declared.edges.StuckNode.{StuckNode}
use Rattle.node_ports.specs.Ports.{PortsPicture, edge_of, is_own_port, lifted_of}
use Rattle.node_cells.specs.Cells.{CellNodeHolds, IsHome}
use Rattle.exec_laws.specs.declared.edges.EdgeState.{EdgeState}
use Rattle.exec_laws.specs.Names.{AreEdgesOf, HasEdge, HoldsGraph, IsBorn, Running, is_waiting, port_edge}
use Rattle.exec_laws.specs.declared.edges.NodeStatus.TheVariants as node
use Rattle.exec_table.specs.Boards.{Board, Holds, lane_at, node_view}
use Rattle.core_laws.specs.Views.{port_at}
unfoldable use Rattle.proc_api.specs.Names.{wire_at}

-- what is seen of a cell: its box, its mark and its ports, and the places of the wires at these
-- among those of the graph
pub record WholeCell : Type 0 where
  pub box : BoxPicture
  pub mark : NodeMark
  pub ports : PortsPicture
  pub inputs : List ℕ
  pub outputs : List ℕ

abbrev pub picture_of : WholeCell → CellPicture
picture_of c = record {
  box = c.box;
  view = c.ports.view;
  mark = c.mark;
  inputs = c.inputs;
  outputs = c.outputs;
}

-- The wires at the ports of node n are at these places among those of a graph. In the table their
-- edges have other numbers, since a reserve may have edges that no wire has.
pub record HasPlaces (wires : List Wire) (table_edge : ℕ → ℕ) (n : ℕ) (inputs outputs : List ℕ)
    (c : PortsPicture) : Type 0 where
  pub numbers : AreEdgesOf wires n inputs outputs
  pub ins : length c.inputs ≡ length inputs
  pub outs : length c.outputs ≡ length outputs
  pub edge_is : (p : Port) → is_own_port c p
      → edge_of c p ≡ table_edge (port_edge inputs outputs p)
  pub wire_is : (p : Port) → is_own_port c p → (end_of_view c.node (edge_of c p)).wire
      ≡ Some (wire_at wires (port_edge inputs outputs p))

-- a born node's cell, which is at home
pub record CellAtHome (wires : List Wire) (table_edge : ℕ → ℕ) (n : ℕ) (c : WholeCell) : Type 0
  where
    pub holds : CellNodeHolds c.box c.mark c.ports
    pub home : IsHome c.mark c.ports
    pub places : HasPlaces wires table_edge n c.inputs c.outputs c.ports

-- The seats of the cells know what the board has, each born node's cell is at home, and nothing is
-- pending.
pub record AreSettled (count : ℕ) (wires : List Wire) (table_edge : ℕ → ℕ) (b : Board)
    (cells : ℕ → WholeCell) : Type 0 where
  pub board : Holds b
  pub pending : b.core.pending ≡ 0
  pub graph : HoldsGraph count wires
  pub seen : (n : ℕ) → n < count → (cells n).ports.node ≡ node_view b n
  pub home : (n : ℕ) → n < count → IsBorn (cells n).box → CellAtHome wires table_edge n (cells n)
  pub unborn : (n : ℕ) → n < count → (cells n).box.spec ≡ None
      → (cells n).mark.state ≡ node.Unborn
  pub still : (n : ℕ) → (cells n).ports.view.actions ≡ []
  pub born : (e n : ℕ) (p : Port) → HasEdge wires n p e → IsBorn (cells n).box

-- the content of an edge, unless its consumer lifted it
abbrev pub unlifted : Option Table → Option Table → Option Table
unlifted None y = y
unlifted (Some c) y = None

abbrev pub lifted_at : PortsPicture → ℕ → Option Table
lifted_at c e = lifted_of (slot_in e c.slots) (end_of_view c.node e).turn

-- an edge as the board has it, but for the chunk that its consumer lifted
abbrev pub edge_of_board : List Wire → (ℕ → ℕ) → Board → (ℕ → WholeCell) → ℕ → EdgeState
edge_of_board wires table_edge b cells e = record {
  flags = (port_at b.core (table_edge e)).flags;
  chunk = unlifted (lifted_at (cells (wire_at wires e).to).ports (table_edge e))
      (lane_at b (table_edge e)).content;
}

-- ---- what follows

abbrev pub cell_pictures : (ℕ → WholeCell) → ℕ → CellPicture
cell_pictures cells n = picture_of (cells n)

-- a running graph in which no action waits and no born node is due
pub record RunsQuietly (count : ℕ) (wires : List Wire) (table_edge : ℕ → ℕ) (b : Board)
    (cells : ℕ → WholeCell) : Type 0 where
  pub running : Running count wires (cell_pictures cells) (edge_of_board wires table_edge b cells)
  pub quiet : (n : ℕ) → (cell_pictures cells n).view.actions ≡ []
  pub due : (n : ℕ) → n < count → is_waiting (cells n).mark.state ≡ false

abbrev pub SettledLaw : Type 0
SettledLaw = (count : ℕ) (wires : List Wire) (table_edge : ℕ → ℕ) (b : Board)
    (cells : ℕ → WholeCell) → AreSettled count wires table_edge b cells
    → RunsQuietly count wires table_edge b cells

-- ---- the ends of a run

abbrev pub no_whole : WholeCell
no_whole = record {
  box = no_box;
  mark = record { state = node.Unborn; last = None };
  ports = record {
    node = no_node_view;
    slots = [];
    view = new_picture 0 0;
    inputs = [];
    outputs = [];
    sources = [];
    targets = [];
    needed = [];
    updated = record { inputs = 0; outputs = 0; first = false };
  };
  inputs = [];
  outputs = [];
}

abbrev pub whole_at : List WholeCell → ℕ → WholeCell
whole_at cells n = slice_index_or cells n no_whole

abbrev pub pictures : List WholeCell → List CellPicture
pictures cells = map picture_of cells

-- Where each resting node's view supports its last status the run is done, and where one's doesn't
-- it is stuck there.
pub record EndsWell (wires : List Wire) (cells : List WholeCell) : Type 0 where
  pub done : ((n : ℕ) → n < length (pictures cells) → SupportsStatus (cell_at (pictures cells) n))
      → IsDone wires (boxes_of (pictures cells))
  pub stuck : (n : ℕ) (report : List StuckNode) → n < length (pictures cells)
      → ContradictsStatus (cell_at (pictures cells) n)
      → report ≡ stuck_from 0 (boxes_of (pictures cells))
      → IsStuck wires (boxes_of (pictures cells)) report n

abbrev pub EndLaw : Type 0
EndLaw = (wires : List Wire) (table_edge : ℕ → ℕ) (b : Board) (cells : List WholeCell)
    → AreSettled (length cells) wires table_edge b (whole_at cells) → EndsWell wires cells
