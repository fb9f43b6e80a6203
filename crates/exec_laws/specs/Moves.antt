-- The moves of an executor, and what each does.
use Rattle.exec_laws.specs.Prelude.{Action, BoxPicture, ChangedByCalls, Close, CountsOn, EdgeState, Finish, GrowthForm, Input, IsAllFinished, KeepsSame, MayGrow, NodeMark, NodeStatus, NotesView, Output, Picture, Port, PreparesLawfully, Pull, PulledOn, Push, SameBox, SameChunks, Status, Table, Unwant, Want, Wire, after_grow, input_count, new_picture, output_count, port_flags}
use Rattle.exec_laws.specs.Runs.{AreEdgesOf, CellPicture, HasEdge, IsBorn, MarkHolds, port_edge}
use Rattle.std.specs.Prelude.{Bool, IsTrue, List, None, Option, Some, cond, false, true, ℕ, ◌==◌, ◌≡◌, ◌≢◌, ◌⊎◌}
use Rattle.proc_api.specs.declared.status.Status.TheVariants as status
use Rattle.exec_laws.specs.declared.edges.DueCall.TheVariants as call
use Rattle.exec_laws.specs.declared.edges.NodeStatus.TheVariants as node

-- ---- marks

-- the mark of a node before its first move: it is due where it has no output
abbrev pub new_mark : ℕ → NodeMark
new_mark outputs = record { state = cond (outputs == 0) node.Due node.Resting; last = None }

-- a node one of whose ports has changed
abbrev pub told_state : NodeStatus → NodeStatus
told_state node.Resting = node.Due
told_state node.Due = node.Due
told_state (node.AtWork c) = node.AtWork c
told_state node.Over = node.Over
told_state node.Unborn = node.Unborn

abbrev pub told : NodeMark → NodeMark
told m = record { state = told_state m.state; last = m.last }

-- whether a node is due or at work
abbrev pub is_waiting : NodeStatus → Bool
is_waiting node.Resting = false
is_waiting node.Due = true
is_waiting (node.AtWork c) = true
is_waiting node.Over = false
is_waiting node.Unborn = false

abbrev pub is_resting : NodeStatus → Bool
is_resting node.Resting = true
is_resting node.Due = false
is_resting (node.AtWork c) = false
is_resting node.Over = false
is_resting node.Unborn = false

-- the cell, whose node was told or wasn't
abbrev pub told_if : Bool → CellPicture → CellPicture
told_if b c = record c { mark = cond b (told c.mark) c.mark }

-- what comes next after an answer to `prepare`
abbrev pub state_after : Status → NodeStatus
state_after status.NeedData = node.Resting
state_after status.PortFull = node.Resting
state_after status.Ready = node.AtWork call.Work
state_after status.Async = node.AtWork call.Schedule
state_after status.ExpandPipeline = node.AtWork call.Expand
state_after status.Finished = node.Over

-- ---- what stays of a box, whatever is called

-- the box is the same, and its counts since `load` rose by what they rose
pub record StaysBox (p q : BoxPicture) : Type 0 where
  pub same : SameBox p q
  pub counts : CountsOn p q
  pub pulled : PulledOn p q

-- what a move leaves of a box: one of an unborn node is left as it is
pub record KeepsBox (p q : BoxPicture) : Type 0 where
  pub born : IsBorn p → StaysBox p q
  pub unborn : p.spec ≡ None → q ≡ p
  pub growth : q.growth ≡ p.growth

-- ---- a node sees a port

-- the chunk that comes with an edge's flags: the one that lies there, unless the consumer closed
-- the edge
abbrev pub lifted : Port → EdgeState → Option Table
lifted (Input i) e = cond e.flags.fin_in None e.chunk
lifted (Output o) e = None

-- the edge without it
abbrev pub unloaded : Port → EdgeState → EdgeState
unloaded (Input i) e = record { flags = e.flags; chunk = cond e.flags.fin_in e.chunk None }
unloaded (Output o) e = e

-- the edge at a port of node n moved on in this way, and no other did
pub record Touches (wires : List Wire) (n : ℕ) (p : Port) (how : EdgeState → EdgeState)
    (edges moved : ℕ → EdgeState) : Type 0 where
  pub edge : ℕ
  pub is_there : HasEdge wires n p edge
  pub here : moved edge ≡ how (edges edge)
  pub elsewhere : (e : ℕ) → e ≢ edge → moved e ≡ edges e

-- the view shows the edge's flags at the port
abbrev pub ViewKnows : CellPicture → Port → (ℕ → EdgeState) → Type 0
ViewKnows c p edges = port_flags c.view p ≡ (edges (port_edge c.inputs c.outputs p)).flags

-- ---- its box is prepared

-- a call of `prepare`
pub record Prepares (p : BoxPicture) (v : Picture) (q : BoxPicture) (w : Picture)
    (s : Status) : Type 0 where
  pub stays : StaysBox p q
  pub changed : ChangedByCalls v w
  pub notes : NotesView p q w s
  pub lawful : IsTrue p.lawful → PreparesLawfully p v q w s

-- What an executor does to the view besides: where the box has finished, it closes each input that
-- isn't finished, and finishes each output that isn't.
pub record LeavesView (s : Status) (w u : Picture) : Type 0 where
  pub changed : ChangedByCalls w u
  pub chunks : SameChunks w u
  pub same : (s ≡ status.Finished → IsAllFinished w) → u ≡ w
  pub finished : s ≡ status.Finished → IsAllFinished u

-- A node that has seen its ports was prepared; what it did is yet to be carried out.
pub record NodeTurns (c d : CellPicture) : Type 0 where
  pub answer : Status
  pub left : Picture
  pub prepares : Prepares c.box c.view d.box left answer
  pub leaves : LeavesView answer left d.view
  pub own : d ≡ record c {
    box = d.box;
    view = d.view;
    mark =
        record { state = state_after answer; last = Some answer };
  }

-- ---- what it did is carried out

-- the port of an action
abbrev pub action_port : Action → Port
action_port (Want i) = Input i
action_port (Unwant i) = Input i
action_port (Pull i) = Input i
action_port (Close i) = Input i
action_port (Push o chunk) = Output o
action_port (Finish o) = Output o

-- whether the node at the other end is told: of all but that an input isn't needed any more
abbrev pub is_told : Action → Bool
is_told (Want i) = true
is_told (Unwant i) = false
is_told (Pull i) = true
is_told (Close i) = true
is_told (Push o chunk) = true
is_told (Finish o) = true

-- the edge at the action's port after it
abbrev pub after_action : Action → EdgeState → EdgeState
after_action (Want i) e = record e { flags = record e.flags { needed = true } }
after_action (Unwant i) e = record e { flags = record e.flags { needed = false } }
after_action (Pull i) e = record e { flags = record e.flags { has_data = false } }
after_action (Close i) e = record e { flags = record e.flags { fin_in = true } }
after_action (Push o chunk) e =
    record { flags = record e.flags { has_data = true }; chunk = Some chunk }
after_action (Finish o) e = record e { flags = record e.flags { fin_out = true } }

-- ---- a box works, or fetches

-- what every such call leaves that answers no fault
pub record Acts (p q : BoxPicture) : Type 0 where
  pub same : SameBox p q
  pub view : q.notes.view ≡ p.notes.view
  pub fits : q.notes.fits ≡ p.notes.fits
  pub growth : q.growth ≡ p.growth
  pub faultless : q.notes.fault ≡ None
  pub not_handed_out : q.work.handed_out ≡ false
  pub keeps : IsTrue p.lawful → KeepsSame p q

-- the box of a node that isn't over worked or fetched, and the node is due or due a call
pub record ActsCell (c d : CellPicture) : Type 0 where
  pub busy : c.mark.state ≢ node.Over
  pub not_unborn : c.mark.state ≢ node.Unborn
  pub acts : Acts c.box d.box
  pub own : d ≡ record c { box = d.box; mark = record { state = d.mark.state; last = c.mark.last } }
  pub awake : d.mark.state ≡ node.Resting → ⊥
  pub holds : (m n : ℕ) (v : Picture) → MarkHolds d.mark.state c.mark.last m n d.box v

-- a node was left as it was, or its box worked or fetched
abbrev pub StaysOrActs : CellPicture → CellPicture → Type 0
StaysOrActs c d = (d ≡ c) ⊎ ActsCell c d

-- ---- the graph grows

-- a node before its first move, but for its box
pub record IsNewNode (wires : List Wire) (n : ℕ) (c : CellPicture) : Type 0 where
  pub view : c.view ≡ new_picture (input_count wires n) (output_count wires n)
  pub mark : c.mark ≡ new_mark (output_count wires n)
  pub numbers : AreEdgesOf wires n c.inputs c.outputs

-- a box let the graph grow
pub record Grew (g : GrowthForm) (p q : BoxPicture) : Type 0 where
  pub same : SameBox p q
  pub view : q.notes.view ≡ p.notes.view
  pub fits : q.notes.fits ≡ p.notes.fits
  pub growth : q.growth ≡ Some g
  pub grows : IsTrue p.lawful → MayGrow p.spec p.files (Some g)
  pub not_handed_out : q.work.handed_out ≡ false
  pub faultless : q.notes.fault ≡ None
  pub keeps : IsTrue p.lawful → KeepsSame p q

-- the node whose box did: its view and the numbers of its edges are those of the grown wires, and
-- it is due
pub record GrewCell (g : GrowthForm) (wires : List Wire) (n : ℕ) (c d : CellPicture) : Type 0 where
  pub grew : Grew g c.box d.box
  pub view : d.view ≡ after_grow c.view (input_count wires n) (output_count wires n)
  pub numbers : AreEdgesOf wires n d.inputs d.outputs
  pub due : d.mark.state ≡ node.Due
