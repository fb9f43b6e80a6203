-- What is true of a running graph between two moves: of each node, and of each edge.
use Rattle.exec_laws.specs.Prelude.{AllInputsFinished, Answer, ArePortsOf, BoxPicture, DueCall, EdgeState, Flags, FollowsKept, HasPort, Input, InputFollows, InputPort, IsAllFinished, IsGraph, IsRunning, IsSound, Keeps, Lists, MaySchedule, MayWork, NodeMark, NodeStatus, Output, OutputAllows, OutputFollows, Picture, Port, Prepared, ProducerKnows, Reserve, Rests, Scheduled, StandStill, Status, StatusComes, Table, Wire, in_count, input_after, input_at, input_count, is_out_finished, kept_input, kept_inputs, kept_output, kept_outputs, new_picture, no_box, no_flags, out_count, output_after, output_at, output_count, port_flags, pushes_to, wire_at}
use Rattle.std.specs.Prelude.{IsSome, IsTrue, List, None, Option, Some, [], false, is_some, length, slice_index_or, true, ℕ, ⊤, ◌++◌, ◌<◌, ◌||◌, ◌∷◌, ◌≡◌, ◌≢◌, ◌≤◌}
use Rattle.proc_api.specs.declared.status.Status.TheVariants as status
use Rattle.exec_laws.specs.declared.edges.DueCall.TheVariants as call
use Rattle.exec_laws.specs.declared.edges.NodeStatus.TheVariants as node

-- ---- the state

-- What an executor has of a node: the picture of its box, its view, its mark, and the numbers of
-- the edges at its inputs and at its outputs.
pub record CellPicture : Type 0 where
  pub box : BoxPicture
  pub view : Picture
  pub mark : NodeMark
  pub inputs : List ℕ
  pub outputs : List ℕ

abbrev pub new_edge : EdgeState
new_edge = record { flags = no_flags; chunk = None }

abbrev pub no_cell : CellPicture
no_cell = record {
  box = no_box;
  view = new_picture 0 0;
  mark = record { state = node.Unborn; last = None };
  inputs = [];
  outputs = [];
}

unfoldable pub box_at : List BoxPicture → ℕ → BoxPicture
box_at boxes n = slice_index_or boxes n no_box

abbrev pub cell_at : List CellPicture → ℕ → CellPicture
cell_at cells n = slice_index_or cells n no_cell

abbrev pub edge_at : List EdgeState → ℕ → EdgeState
edge_at edges e = slice_index_or edges e new_edge

-- the number at a place of a list of edges' numbers
abbrev pub number_at : List ℕ → ℕ → ℕ
number_at numbers k = slice_index_or numbers k 0

-- the port is one of so many inputs and outputs
abbrev pub IsPort : (inputs outputs : ℕ) → Port → Type 0
IsPort inputs outputs (Input i) = i < inputs
IsPort inputs outputs (Output o) = o < outputs

-- the port is the node's end of the wire
abbrev pub IsEnd : Wire → ℕ → Port → Type 0
IsEnd w n (Input i) = (w.to ≡ n) × (w.input ≡ i)
IsEnd w n (Output o) = (w.from ≡ n) × (w.out ≡ o)

-- the node at the other end
abbrev pub peer : Wire → Port → ℕ
peer w (Input i) = w.from
peer w (Output o) = w.to

-- the edge ends at the port
pub record HasEdge (wires : List Wire) (n : ℕ) (p : Port) (e : ℕ) : Type 0 where
  pub in_range : e < length wires
  pub at_port : IsEnd (wire_at wires e) n p

-- the number of the edge at a port, by the numbers at all inputs and outputs
abbrev pub port_edge : (inputs outputs : List ℕ) → Port → ℕ
port_edge inputs outputs (Input i) = number_at inputs i
port_edge inputs outputs (Output o) = number_at outputs o

-- the numbers of the edges at the ports of node n
pub record AreEdgesOf (wires : List Wire) (n : ℕ) (inputs outputs : List ℕ) : Type 0 where
  pub ins : length inputs ≡ input_count wires n
  pub outs : length outputs ≡ output_count wires n
  pub at : (p : Port) → IsPort (input_count wires n) (output_count wires n) p
      → HasEdge wires n p (port_edge inputs outputs p)

-- a box that was loaded; a blank one belongs to a node that isn't born
abbrev pub IsBorn : BoxPicture → Type 0
IsBorn p = IsSome p.spec

-- ---- a node

abbrev pub last_answer : Option Status → Option Answer
last_answer None = None
last_answer (Some s) = Some (Prepared s)

-- A node may rest on this answer: nothing is left to do but what a change at a port asks for.
abbrev pub MayRest : Option Answer → Type 0
MayRest None = ⊤
MayRest (Some (Prepared status.NeedData)) = ⊤
MayRest (Some (Prepared status.PortFull)) = ⊤
MayRest (Some (Prepared status.Ready)) = ⊥
MayRest (Some (Prepared status.Async)) = ⊥
MayRest (Some (Prepared status.ExpandPipeline)) = ⊥
MayRest (Some (Prepared status.Finished)) = ⊥
MayRest (Some (Scheduled w)) = ⊥

-- the box was asked and says that the graph is to grow
pub record AsksToGrow (p : BoxPicture) : Type 0 where
  pub answer : p.notes.answer ≡ Some (Prepared status.ExpandPipeline)
  pub not_acted : p.notes.acted ≡ false
  pub comes : IsTrue p.lawful → StatusComes status.ExpandPipeline p

-- the box's own answer lets the call come
abbrev pub MayCall : DueCall → BoxPicture → Type 0
MayCall call.Work p = MayWork p.notes.answer × (p.notes.acted ≡ false)
MayCall call.Schedule p = MaySchedule p.notes.answer × (p.notes.acted ≡ false)
MayCall call.Expand p = AsksToGrow p

-- The flags that a box keeps of its ports, so many inputs and outputs, say that each input is
-- finished or closed, and each output finished.
pub record HasFinished (inputs outputs : ℕ) (p : BoxPicture) : Type 0 where
  pub ins : kept_inputs p ≡ inputs
  pub outs : kept_outputs p ≡ outputs
  pub inputs_finished : AllInputsFinished p
  pub outputs_finished : (o : ℕ) → o < kept_outputs p → is_out_finished (kept_output p o) ≡ true

-- the flags that the box keeps of a port
abbrev pub kept_flags : BoxPicture → Port → Flags
kept_flags p (Input i) = kept_input p i
kept_flags p (Output o) = kept_output p o

-- The node rests on its last answer, if it has one, and its box keeps the flags that the view
-- shows. A lawful box's answer is borne out by its view.
pub record IsAtRest (last : Option Status) (p : BoxPicture) (v : Picture) : Type 0 where
  pub answer : p.notes.answer ≡ last_answer last
  pub may_rest : MayRest p.notes.answer
  pub kept : (q : Port) → HasPort v q → kept_flags p q ≡ port_flags v q
  pub rests : IsTrue p.lawful → Rests last v

-- the node has finished, and so has each of its ports
pub record IsNodeOver (inputs outputs : ℕ) (p : BoxPicture) (v : Picture) : Type 0 where
  pub answer : p.notes.answer ≡ Some (Prepared status.Finished)
  pub ports : IsAllFinished v
  pub kept : IsTrue p.lawful → HasFinished inputs outputs p

-- what a mark says of the node
abbrev pub MarkHolds : NodeStatus → Option Status → (inputs outputs : ℕ) → BoxPicture → Picture
    → Type 0
MarkHolds node.Resting last inputs outputs p v = IsAtRest last p v
MarkHolds node.Due last inputs outputs p v = ⊤
MarkHolds (node.AtWork c) last inputs outputs p v = MayCall c p
MarkHolds node.Over last inputs outputs p v = IsNodeOver inputs outputs p v
MarkHolds node.Unborn last inputs outputs p v = ⊥

-- A box with so many inputs and outputs, whatever the mark is. A lawful box that has the ports of
-- its spec keeps what it pulled and pushed.
pub record BoxHolds (inputs outputs : ℕ) (p : BoxPicture) (pulled pushed : Lists) : Type 0 where
  pub running : IsRunning p
  pub still : IsTrue p.lawful → StandStill p.spec p.notes.view inputs outputs
  pub fits : IsTrue p.lawful → ArePortsOf p.spec p.growth inputs outputs → p.notes.fits ≡ true
  pub keeps : IsTrue p.lawful → ArePortsOf p.spec p.growth inputs outputs → Keeps p pulled pushed
  pub nothing_past : (i : ℕ) → inputs ≤ i → pulled i ≡ []
  pub nothing_pushed_past : (o : ℕ) → outputs ≤ o → pushed o ≡ []

pub record ViewHolds (inputs outputs : ℕ) (v : Picture) : Type 0 where
  pub sound : IsSound v
  pub ins : in_count v ≡ inputs
  pub outs : out_count v ≡ outputs

-- A born node, whether or not all its actions were carried out. What an executor closes or finishes
-- besides of a box that has finished shows in its view alone, and it is over then.
pub record NodeHolds (wires : List Wire) (n : ℕ) (c : CellPicture)
    (pulled pushed : Lists) : Type 0 where
  pub box : BoxHolds (input_count wires n) (output_count wires n) c.box pulled pushed
  pub view : ViewHolds (input_count wires n) (output_count wires n) c.view
  pub numbers : AreEdgesOf wires n c.inputs c.outputs
  pub kept : (c.mark.state ≡ node.Over → IsTrue c.box.lawful) → FollowsKept c.box c.view
  pub mark : MarkHolds c.mark.state c.mark.last (input_count wires n) (output_count wires n) c.box
      c.view

-- ---- an edge

abbrev pub chunks_of : Option Table → List Table
chunks_of None = []
chunks_of (Some chunk) = chunk ∷ []

-- An output, as a view with this mark shows it, and the flags there. A node at rest knows the port.
pub record OutputHolds (m : NodeStatus) (f g : Flags) : Type 0 where
  pub follows : OutputFollows f g
  pub known : m ≡ node.Resting → ProducerKnows f g

-- An input, and the flags and the chunk there. There is data exactly where a chunk lies in the view
-- or in the edge, and never in both.
pub record InputHolds (m : NodeStatus) (c : InputPort) (g : Flags)
    (chunk : Option Table) : Type 0 where
  pub follows : InputFollows c.flags g
  pub data_there : g.has_data ≡ (is_some c.chunk || is_some chunk)
  pub one_chunk : is_some c.chunk ≡ true → chunk ≡ None
  pub known : m ≡ node.Resting → c.flags ≡ g

-- An edge at a port of a node, whose own actions there aren't all carried out: the view shows the
-- edge as they will leave it.
abbrev pub EdgeEndHolds : Port → CellPicture → EdgeState → Type 0
EdgeEndHolds (Input i) c e =
    InputHolds c.mark.state (input_at c.view i) (input_after i c.view.actions e.flags) e.chunk
EdgeEndHolds (Output o) c e =
    OutputHolds c.mark.state (output_at c.view o) (output_after o c.view.actions e.flags)
    × OutputAllows o c.view.actions e.flags

-- ---- a running graph

-- the wires are those of a graph of so many nodes
pub record HoldsGraph (nodes : ℕ) (wires : List Wire) : Type 0 where
  pub ranks : List ℕ
  pub reserves : List Reserve
  pub graph : IsGraph ranks wires reserves
  pub nodes_len : nodes ≡ length ranks

-- Each born node of the graph holds, and so do both ends of each edge, for some lists of chunks.
-- The chunks pushed are those pulled, then that at the consumer, as its view shows, then that in
-- the edge, and then those whose push isn't carried out. A node that isn't born has nothing to do.
pub record Running (count : ℕ) (wires : List Wire) (cells : ℕ → CellPicture) (edges : ℕ → EdgeState)
    : Type 0 where
  pub graph : HoldsGraph count wires
  pub pulled : ℕ → Lists
  pub pushed : ℕ → Lists
  pub each : (n : ℕ) → n < count → IsBorn (cells n).box
      → NodeHolds wires n (cells n) (pulled n) (pushed n)
  pub unborn : (n : ℕ) → n < count → (cells n).box.spec ≡ None → (cells n).mark.state ≡ node.Unborn
  pub born : (e n : ℕ) (p : Port) → HasEdge wires n p e → IsBorn (cells n).box
  pub ends : (e n : ℕ) (p : Port) → HasEdge wires n p e → EdgeEndHolds p (cells n) (edges e)
  pub lists : (e : ℕ) → e < length wires → let w = wire_at wires e in
      pushed w.from w.out
      ≡ ((pulled w.to w.input ++ chunks_of (input_at (cells w.to).view w.input).chunk)
      ++ chunks_of (edges e).chunk) ++ pushes_to w.out (cells w.from).view.actions

-- no action waits in a view, but in that of this node
abbrev pub QuietBut : ℕ → (ℕ → CellPicture) → Type 0
QuietBut n cells = (m : ℕ) → m ≢ n → (cells m).view.actions ≡ []
