-- The cells of all nodes of a table, in order of their numbers.
use Rattle.node_ends.specs.Prelude.{AreSettled, Board, BoxPicture, CellPicture, EachSeat, EndRoom, HasEdge, HasPlaces, HoldsGraph, Identity, IsBack, IsStored, NodeBody, NodeCell, NodeSeat, SurveyRoom, WholeCell, Wire, cell_ports, is_waiting, turn_picture, view, whole_at}
use Rattle.exec_laws.specs.declared.edges.NodeStatus.TheVariants as node
use Rattle.port_word.specs.declared.flags.Port.{Port}
use Rattle.task_queue.specs.Queues.{IsPassOf}
use Rattle.std.specs.Prelude.{List, Vec, [], false, length, map, slice_index_or, vec_capacity, ℕ, ◌≡◌, ◌≤◌}
use Rattle.std.specs.declared.alloc.Global.{Global}
use mathlib.Core.Option.{some}
use lib.ListN.{get_elem?}

-- ---- parts of cells

abbrev pub body_of : {P : Type 0} → NodeCell P → NodeBody P
body_of c = record {
  processor = c.processor;
  mark = c.mark;
  ports = c.ports;
  reserve = c.reserve;
}

abbrev pub bodies_of : {P : Type 0} → List (NodeCell P) → List (NodeBody P)
bodies_of cells = map body_of cells

abbrev pub seats_of : {P : Type 0} → List (NodeCell P) → List NodeSeat
seats_of {P} cells = map (λ (c : NodeCell P). c.seat) cells

-- what is seen of the box of each cell
abbrev pub boxes_in : {P : Type 0} → (P → BoxPicture) → List (NodeCell P) → List BoxPicture
boxes_in {P} seen cells = map (λ (c : NodeCell P). seen c.processor) cells

-- The graph that the cells of a table run: its wires, the numbers that these have in the table, and
-- for each node the places of the wires at its inputs and outputs.
pub record CellGraph : Type 0 where
  pub wires : List Wire
  pub table_edge : ℕ → ℕ
  pub inputs : ℕ → List ℕ
  pub outputs : ℕ → List ℕ

-- a graph whose wires have their places as numbers in the table, with the edges of these cells
abbrev pub own_graph : {P : Type 0} → List Wire → List (NodeCell P) → CellGraph
own_graph {P} wires cells = record {
  wires = wires;
  table_edge = λ e. e;
  inputs = λ n. slice_index_or (map (λ (c : NodeCell P). c.ports.inputs.items) cells) n [];
  outputs = λ n. slice_index_or (map (λ (c : NodeCell P). c.ports.outputs.items) cells) n [];
}

abbrev pub whole_of : {P : Type 0} → (P → BoxPicture) → CellGraph → NodeCell P → WholeCell
whole_of seen g c = record {
  box = seen c.processor;
  mark = c.mark;
  ports = cell_ports c;
  inputs = g.inputs (view c.seat).number;
  outputs = g.outputs (view c.seat).number;
}

abbrev pub wholes_of : {P : Type 0} → (P → BoxPicture) → CellGraph → List (NodeCell P)
    → List WholeCell
wholes_of seen g cells = map (whole_of seen g) cells

abbrev pub pictures_of : {P : Type 0} → (P → BoxPicture) → List (NodeCell P) → List CellPicture
pictures_of seen cells = map (turn_picture seen) cells

-- ---- cells between two visits

abbrev pub IsUnborn : {P : Type 0} → NodeCell P → Type 0
IsUnborn c = c.mark.state ≡ node.Unborn

-- the cell of the node n, which has all its edges in the graph once it is born
pub record IsCellOf {P : Type 0} (seen : P → BoxPicture) (t : Identity) (g : CellGraph) (n : ℕ)
    (c : NodeCell P) : Type 0 where
  pub stored : IsStored seen t c
  pub number : (view c.seat).number ≡ n
  pub places : (IsUnborn c → ⊥)
      → HasPlaces g.wires g.table_edge n (g.inputs n) (g.outputs n) (cell_ports c)

-- the cells of all nodes of the graph, which joins born ones alone
pub record AreCells {P : Type 0} (seen : P → BoxPicture) (t : Identity) (g : CellGraph)
    (cells : List (NodeCell P)) : Type 0 where
  pub count : length cells ≡ t.sizes.nodes
  pub graph : HoldsGraph (length cells) g.wires
  pub each : (n : ℕ) (c : NodeCell P) → get_elem? cells n ≡ some c → IsCellOf seen t g n c
  pub joined : (e n : ℕ) (p : Port) (c : NodeCell P) → HasEdge g.wires n p e
      → get_elem? cells n ≡ some c → IsUnborn c → ⊥

-- those of a graph that didn't grow: its wires are the table's first ones
abbrev pub AreOwnCells : {P : Type 0} → (P → BoxPicture) → Identity → List (NodeCell P) → Type 0
AreOwnCells seen t cells = AreCells seen t (own_graph t.sizes.wires cells) cells

-- the cells of all nodes of some graph
abbrev pub AreCellsOfGraph : {P : Type 0} → (P → BoxPicture) → Identity → List (NodeCell P) → Type 0
AreCellsOfGraph seen t cells = (g : CellGraph) × AreCells seen t g cells

-- no node is due or at work
abbrev pub AreAtRest : {P : Type 0} → List (NodeCell P) → Type 0
AreAtRest {P} cells = (n : ℕ) (c : NodeCell P) → get_elem? cells n ≡ some c
    → is_waiting c.mark.state ≡ false

-- ---- a survey

-- the cells have what they had, and seats that know what theirs knew
pub record AreSurveyed {P : Type 0} (t : Identity) (old new : List (NodeCell P)) : Type 0 where
  pub bodies : bodies_of new ≡ bodies_of old
  pub seats : EachSeat (IsBack t) (seats_of old) (seats_of new)

-- the list was emptied, and has no less room
pub record IsEmptied {V : Type 0} (old new : Vec V Global) : Type 0 where
  pub empty : new.items ≡ []
  pub room : vec_capacity old ≤ vec_capacity new

-- empty lists with room for the parts of so many cells
pub record HaveRoomFor {P : Type 0} (count : ℕ) (bodies : Vec (NodeBody P) Global)
    (seats : Vec NodeSeat Global) : Type 0 where
  pub no_bodies : bodies.items ≡ []
  pub no_seats : seats.items ≡ []
  pub bodies_room : count ≤ vec_capacity bodies
  pub seats_room : count ≤ vec_capacity seats

-- room for so many cells, and for the words of the table
pub record IsSurveyRoom {P : Type 0} (t : Identity) (count : ℕ) (r : SurveyRoom P) : Type 0 where
  pub parts : HaveRoomFor count r.bodies r.seats
  pub words : length r.words.items ≡ t.id.words

-- the same, and for the report of a stuck run, with a queue
pub record IsEndRoomFor {P : Type 0} (t : Identity) (count : ℕ) (r : EndRoom P) : Type 0 where
  pub survey : IsSurveyRoom t count r.survey
  pub empty : r.report.items ≡ []
  pub report : count ≤ vec_capacity r.report
  pub pass : IsPassOf r.queue r.tasks.pass

-- ---- where nothing is pending

-- a state of the table in which nothing is pending has what the cells, which are at home, know
pub record IsSettled (g : CellGraph) (cells : List WholeCell) : Type 0 where
  pub board : Board
  pub settled : AreSettled (length cells) g.wires g.table_edge board (whole_at cells)
