-- The turns of a node.
use Rattle.std.specs.Prelude.{◌⊎◌, not, Err, IsTrue, List, None, Ok, Result, ℕ, ◌++◌, ◌∷◌, ◌||◌, ◌==◌, Bool, Option, Some, [], true, false, ◌≡◌, ◌≢◌}
use Rattle.exec_table.specs.Seats.{MakesStep}
use Rattle.core_laws.specs.Steps.{nothing}
use Rattle.core_laws.specs.declared.types.Step.TheVariants as step
use Rattle.exec_table.specs.declared.types.Updated.{Updated}
use Rattle.node_cells.specs.Prelude.{Identity, is_over_stage, is_unborn_stage, BoxPicture, CellPicture, IsSeatOf, NodeCell, NodeSeat, Begun, view}
use Rattle.node_cells.specs.Cells.{CellHolds, IsHome, cell_ports}
use Rattle.node_ports.specs.Actions.{InTurn, SamePorts}
use Rattle.node_ports.specs.Peers.{CarriesNext}
use Rattle.node_ports.specs.declared.actions.Carry.{Carry}
use Rattle.node_ports.specs.declared.actions.Carry.TheVariants as carry
use Rattle.task_queue.specs.Tasks.{AreOffered}
use Rattle.task_queue.specs.declared.queue.TaskQueue.{TaskQueue}
use Rattle.task_queue.specs.declared.tasks.WorkerTasks.{WorkerTasks}
use Rattle.exec_laws.specs.Names.{Acts, KeepsFault, StaysBox, state_after}
use Rattle.node_cells.specs.Stops.{GrowthStays, StopHolds}
use Rattle.node_cells.specs.declared.stop_cause.StopCause.{StopCause}
use Rattle.node_cells.specs.declared.stop_cause.StopCause.TheVariants as cause
use Rattle.node_cells.specs.declared.node_run.RunEnd.{RunEnd}
use Rattle.node_cells.specs.declared.node_run.RunEnd.TheVariants as run
use Rattle.exec_laws.specs.declared.edges.DueCall.{DueCall}
use Rattle.exec_laws.specs.declared.edges.DueCall.TheVariants as call
use Rattle.proc_api.specs.declared.status.Answer.TheVariants.{Scheduled}
use Rattle.proc_api.specs.Names.{WakeComes}
use Rattle.proc_api.specs.declared.status.Wake.{Wake}
use Rattle.proc_api.specs.declared.status.WorkFault.{WorkFault}
use Rattle.proc_api.specs.declared.status.Wake.TheVariants as wake
use Rattle.exec_laws.specs.declared.edges.NodeStatus.TheVariants as node
use Rattle.proc_api.specs.declared.status.Status.{Status}
use Rattle.proc_api.specs.declared.status.Status.TheVariants as status

-- what an executor's moves see of a cell
abbrev pub turn_picture : {P : Type 0} → (P → BoxPicture) → NodeCell P → CellPicture
turn_picture seen c = record {
  box = seen c.processor;
  view = c.ports.view;
  mark = c.mark;
  inputs = c.ports.inputs.items;
  outputs = c.ports.outputs.items;
}

-- what the calls of a turn leave of a cell, until that stops the run: the processor is the one that
-- it was, with what an end of the run says of its box, and the ports and the reserve are the same
pub record Stays {P : Type 0} (seen : P → BoxPicture) (o : Option StopCause)
    (old new : NodeCell P) : Type 0 where
  pub box : StaysBox (seen old.processor) (seen new.processor)
  pub growth : GrowthStays o (seen old.processor) (seen new.processor)
  pub ports : SamePorts (cell_ports old) (cell_ports new)
  pub reserve : new.reserve ≡ old.reserve

-- what a call that isn't one of the processor leaves: the processor as it is, and the same ports
-- and reserve
pub record KeepsProcessor {P : Type 0} (old new : NodeCell P) : Type 0 where
  pub processor : new.processor ≡ old.processor
  pub ports : SamePorts (cell_ports old) (cell_ports new)
  pub reserve : new.reserve ≡ old.reserve

-- the cell of a node in a turn
pub record TurnHolds {P : Type 0} (seen : P → BoxPicture) (t : Identity) (c : NodeCell P)
    : Type 0 where
  pub cell : CellHolds seen t c
  pub turn : InTurn (view c.seat)
  pub stage : (view c.seat).stage ≡ Begun

-- it is to be prepared
pub record IsDue {P : Type 0} (seen : P → BoxPicture) (t : Identity) (c : NodeCell P)
    : Type 0 where
  pub holds : TurnHolds seen t c
  pub quiet : c.ports.view.actions ≡ []
  pub due : c.mark.state ≡ node.Due

-- it was prepared, after it had looked at all its updated ports; what it did may wait
pub record IsPrepared {P : Type 0} (seen : P → BoxPicture) (t : Identity) (c : NodeCell P)
    (s : Status) : Type 0 where
  pub holds : TurnHolds seen t c
  pub mark : c.mark ≡ record { state = state_after s; last = Some s }
  pub looked : (view c.seat).state.unlooked ≡ []

-- the same, and all was carried out
pub record IsCarried {P : Type 0} (seen : P → BoxPicture) (t : Identity) (c : NodeCell P)
    (s : Status) : Type 0 where
  pub prepared : IsPrepared seen t c s
  pub quiet : c.ports.view.actions ≡ []

-- the node that was charged, if one was
abbrev pub charged_by : Carry → List ℕ
charged_by carry.Done = []
charged_by carry.Told = []
charged_by (carry.Charged n) = n ∷ []

-- actions were carried out one after another, and charged these nodes, in order
pub data Charges {P : Type 0} (t : Identity) (old : NodeCell P) : List ℕ → NodeCell P → Type 0 where
  charges_none : Charges t old [] old
  charges_more : {ns : List ℕ} {r : Carry} {mid new : NodeCell P} → Charges t old ns mid
      → CarriesNext t r (cell_ports mid) new.ports new.seat
      → Charges t old (ns ++ charged_by r) new

-- actions were carried out, and each node that was charged was put into the queue or stays with the
-- worker, in order
pub record Queues {P : Type 0} (t : Identity) (q : TaskQueue) (old new : NodeCell P)
    (before after : WorkerTasks) : Type 0 where
  pub charged : List ℕ
  pub charges : Charges t old charged new
  pub offered : AreOffered q before charged after

-- the cell may go home
pub record AtHome {P : Type 0} (seen : P → BoxPicture) (t : Identity) (c : NodeCell P)
    : Type 0 where
  pub cell : CellHolds seen t c
  pub home : IsHome c.mark (cell_ports c)

-- the node rests and its cell may go home, or it is to be prepared again
abbrev pub RestsOrGoes : {P : Type 0} → (P → BoxPicture) → Identity → Bool → NodeCell P → Type 0
RestsOrGoes seen t true c = AtHome seen t c
RestsOrGoes seen t false c = IsDue seen t c

-- whether a port is named, or the node begins for the first time: where not, its word was 0
abbrev pub is_named_by : Updated → Bool
is_named_by u = not (u.inputs == 0) || (not (u.outputs == 0) || u.first)

-- a node that isn't held, and is neither unborn nor over
pub record MayBegin {P : Type 0} (seen : P → BoxPicture) (t : Identity) (c : NodeCell P)
    : Type 0 where
  pub cell : CellHolds seen t c
  pub quiet : c.ports.view.actions ≡ []
  pub tokens : (view c.seat).state.tokens ≡ 0
  pub owes : (view c.seat).state.owes ≡ []
  pub free : (view c.seat).state.held ≡ false
  pub born : is_unborn_stage (view c.seat).stage ≡ false
  pub going : is_over_stage (view c.seat).stage ≡ false
  pub mark : c.mark.state ≢ node.Over

-- the token was taken back, where that was due
pub record TakesBack (t : Identity) (b : Bool) (old new : NodeSeat) : Type 0 where
  pub seat : IsSeatOf t new
  pub took : b ≡ true → MakesStep t old new step.TokenOut None nothing
  pub left : b ≡ false → new ≡ old

-- the cell of a node that is due a call of its processor: all was carried out
pub record IsAtWork {P : Type 0} (seen : P → BoxPicture) (t : Identity) (call : DueCall)
    (c : NodeCell P) : Type 0 where
  pub holds : TurnHolds seen t c
  pub quiet : c.ports.view.actions ≡ []
  pub at_work : c.mark.state ≡ node.AtWork call

-- The run was stopped at the node, for what it keeps. The node is still in its turn, and so held:
-- something stays pending.
pub record IsStopped {P : Type 0} (seen : P → BoxPicture) (t : Identity) (s : StopCause)
    (c : NodeCell P) : Type 0 where
  pub holds : StopHolds seen s c
  pub seat : IsSeatOf t c.seat
  pub turn : InTurn (view c.seat)

-- a call of `schedule` that answers no fault
pub record Wakes (a : Wake) (p q : BoxPicture) : Type 0 where
  pub acts : Acts p q
  pub answer : q.notes.answer ≡ Some (Scheduled a)
  pub not_acted : q.notes.acted ≡ false
  pub comes : IsTrue p.lawful → WakeComes a p q

-- what any call of `schedule` leaves
abbrev pub AnswersWake : Result Wake WorkFault → BoxPicture → BoxPicture → Type 0
AnswersWake (Ok a) p q = Wakes a p q
AnswersWake (Err f) p q = KeepsFault f q

-- The call that was due was made: the box has acted on its answer, or keeps the fault that stopped
-- the run. Nothing else stops it at a call.
abbrev pub IsCalled : Option StopCause → BoxPicture → Type 0
IsCalled None q = q.notes.acted ≡ true
IsCalled (Some (cause.Fault f)) q = KeepsFault f q
IsCalled (Some (cause.Flaw f)) q = ⊥
IsCalled (Some cause.Memory) q = ⊥

-- what comes after a step of work with a device: the box works where that was the last one
abbrev pub WorksAfter : Result Wake WorkFault → Option StopCause → BoxPicture → BoxPicture → Type 0
WorksAfter (Ok wake.Ready) o p q = StaysBox p q × IsCalled o q
WorksAfter (Ok wake.Later) o p q = q ≡ p
WorksAfter (Err f) o p q = q ≡ p

-- a step of work with a device, and the work after the last one
pub record Fetches (o : Option StopCause) (p q : BoxPicture) : Type 0 where
  pub answer : Result Wake WorkFault
  pub woken : BoxPicture
  pub wakes : AnswersWake answer p woken
  pub works : WorksAfter answer o woken q

-- after it the node is to work, or it goes home, held, until its device has more
abbrev pub WakesTo : {P : Type 0} → (P → BoxPicture) → Identity → Wake → NodeCell P → Type 0
WakesTo seen t wake.Ready c = IsAtWork seen t call.Work c
WakesTo seen t wake.Later c = AtHome seen t c × IsAtWork seen t call.Schedule c

-- the call that comes after a schedule
abbrev pub call_after : Wake → DueCall
call_after wake.Ready = call.Work
call_after wake.Later = call.Schedule

-- What follows an answer: the call of the processor that it asks for, and no other. One that asks
-- to grow waits for that.
abbrev pub FollowsAnswer : Status → Option StopCause → BoxPicture → BoxPicture → Type 0
FollowsAnswer status.NeedData o p q = q ≡ p
FollowsAnswer status.PortFull o p q = q ≡ p
FollowsAnswer status.Ready o p q = IsCalled o q
FollowsAnswer status.Async o p q = Fetches o p q
FollowsAnswer status.ExpandPipeline o p q = q ≡ p
FollowsAnswer status.Finished o p q = q ≡ p

-- a turn of a node on a worker: it was prepared, what it did was carried out, the nodes that were
-- charged were queued, and what its answer asks for followed, which may have stopped the run
pub record Turn {P : Type 0} (seen : P → BoxPicture) (t : Identity) (q : TaskQueue)
    (o : Option StopCause) (old new : NodeCell P) (before after : WorkerTasks) : Type 0 where
  pub status : Status
  pub prepared : NodeCell P
  pub carried : NodeCell P
  pub stays : Stays seen None old prepared
  pub prepares : IsPrepared seen t prepared status
  pub queues : Queues t q prepared carried before after
  pub carries : IsCarried seen t carried status
  pub leaves : Stays seen o carried new
  pub follows : FollowsAnswer status o (seen carried.processor) (seen new.processor)

-- one turn after another, none of which stopped the run
pub data Runs {P : Type 0} (seen : P → BoxPicture) (t : Identity) (q : TaskQueue)
    (old : NodeCell P) (before : WorkerTasks) : NodeCell P → WorkerTasks → Type 0 where
  runs_none : Runs seen t q old before old before
  runs_more : {mid new : NodeCell P} {between after : WorkerTasks}
      → Runs seen t q old before mid between → Turn seen t q None mid new between after
      → Runs seen t q old before new after

-- the same, and a last turn
pub record TakesTurns {P : Type 0} (seen : P → BoxPicture) (t : Identity) (q : TaskQueue)
    (o : Option StopCause) (old new : NodeCell P) (before after : WorkerTasks) : Type 0 where
  pub between : NodeCell P
  pub tasks : WorkerTasks
  pub earlier : Runs seen t q old before between tasks
  pub last : Turn seen t q o between new tasks after

-- what a node's run on a worker came to: its cell may go home
abbrev pub RunEndHolds : {P : Type 0} → (P → BoxPicture) → Identity → RunEnd → NodeCell P → Type 0
RunEndHolds seen t run.Rests c = AtHome seen t c
    × ((c.mark.state ≡ node.Resting) ⊎ (c.mark.state ≡ node.Over))
RunEndHolds seen t run.Waits c = AtHome seen t c × IsAtWork seen t call.Schedule c
RunEndHolds seen t run.Grows c = AtHome seen t c × IsAtWork seen t call.Expand c

-- the turn goes on, or ends so
abbrev pub GoesOn : {P : Type 0} → (P → BoxPicture) → Identity → Option RunEnd → NodeCell P → Type 0
GoesOn seen t None c = IsDue seen t c
GoesOn seen t (Some e) c = RunEndHolds seen t e c
