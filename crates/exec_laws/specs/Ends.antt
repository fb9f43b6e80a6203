-- What is true of the boxes at one moment of a run, and when it has ended, over plain data.
use Rattle.exec_laws.specs.Prelude.{Answer, ArePortsOf, BoxPicture, FaultHolds, FaultIsDue, Flags, IsRunning, Input, Keeps, Lists, Loads, Output, Port, Prepared, ProducerKnows, Rests, Scheduled, Spec, StandStill, Status, StuckNode, Table, Wire, WorkFault, input_count, is_ended, is_out_finished, kept_input, kept_output, output_count, wire_at}
use Rattle.exec_laws.specs.Moves.{StaysBox, is_resting, is_waiting}
use Rattle.exec_laws.specs.Runs.{CellPicture, HasEdge, HasFinished, IsBorn, MayRest, box_at, cell_at, kept_flags}
use Rattle.std.specs.Prelude.{Bool, IsTrue, List, None, Option, Some, [], cond, false, is_some, length, map, not, suc, true, ℕ, ◌&&◌, ◌++◌, ◌<◌, ◌∷◌, ◌≡◌, ◌≢◌, ◌≤◌, ◌⊎◌}
use Rattle.proc_api.specs.declared.status.Status.TheVariants as status
use Rattle.proc_api.specs.declared.status.WorkFault.TheVariants as fault

-- ---- one moment of a run

-- An edge where no action waits: the chunks pulled are the first of those pushed, and all of them
-- wherever a lawful consumer saw its input end, whether it closed it afterwards or not. A lawful
-- box keeps its own finished flag where its node set it, and a peer's only where the peer's node
-- set it.
pub record EdgeSnapshot (w : Wire) (from to : BoxPicture) (pulled pushed : List Table)
    (port : Flags) : Type 0 where
  pub left : List Table
  pub first : pushed ≡ pulled ++ left
  pub ended : IsTrue to.lawful → is_ended (kept_input to w.input) ≡ true → pulled ≡ pushed
  pub closed : IsTrue to.lawful → port.fin_in ≡ true → (kept_input to w.input).fin_in ≡ true
  pub finished : IsTrue from.lawful → port.fin_out ≡ true → (kept_output from w.out).fin_out ≡ true
  pub sees_finished : IsTrue to.lawful → (kept_input to w.input).fin_out ≡ true
      → port.fin_out ≡ true
  pub sees_closed : IsTrue from.lawful → (kept_output from w.out).fin_in ≡ true → port.fin_in ≡ true

-- A lawful box: if it has the ports of its spec and growth, it keeps what was pulled and pushed.
-- Nothing was pulled where there is no input.
pub record BoxSnapshot (inputs outputs : ℕ) (p : BoxPicture) (pulled pushed : Lists) : Type 0 where
  pub still : StandStill p.spec p.notes.view inputs outputs
  pub keeps : ArePortsOf p.spec p.growth inputs outputs → Keeps p pulled pushed
  pub nothing_past : (i : ℕ) → inputs ≤ i → pulled i ≡ []
  pub nothing_pushed_past : (o : ℕ) → outputs ≤ o → pushed o ≡ []

-- What holds whenever no action waits: there are lists of chunks for each port, and flags of each
-- edge's port. The wires are those of that moment.
pub record Snapshot (wires : List Wire) (boxes : List BoxPicture) : Type 0 where
  pub pulled : ℕ → Lists
  pub pushed : ℕ → Lists
  pub ports : ℕ → Flags
  pub each : (n : ℕ) → n < length boxes → IsBorn (box_at boxes n) → IsTrue (box_at boxes n).lawful
      → BoxSnapshot (input_count wires n) (output_count wires n) (box_at boxes n) (pulled n)
      (pushed n)
  pub joined : (e : ℕ) → e < length wires → let w = wire_at wires e in
      EdgeSnapshot w (box_at boxes w.from) (box_at boxes w.to) (pulled w.to w.input)
      (pushed w.from w.out) (ports e)

-- ---- done

-- Every born node is over, and its box may still be called. The flags that a lawful box keeps say
-- that it has finished. The chunks pulled are all that were pushed unless the consumer's node
-- closed the port.
pub record AllNodesOver (wires : List Wire) (boxes : List BoxPicture) (s : Snapshot wires boxes)
    : Type 0 where
  pub answers : (n : ℕ) → n < length boxes → IsBorn (box_at boxes n)
      → (box_at boxes n).notes.answer ≡ Some (Prepared status.Finished)
  pub running : (n : ℕ) → n < length boxes → IsBorn (box_at boxes n) → IsRunning (box_at boxes n)
  pub finished : (n : ℕ) → n < length boxes → IsBorn (box_at boxes n)
      → IsTrue (box_at boxes n).lawful
      → HasFinished (input_count wires n) (output_count wires n) (box_at boxes n)
  pub all : (e : ℕ) → e < length wires → let w = wire_at wires e in
      (s.ports e).fin_in ≡ false → s.pulled w.to w.input ≡ s.pushed w.from w.out

-- a run that has ended
pub record IsDone (wires : List Wire) (boxes : List BoxPicture) : Type 0 where
  pub snapshot : Snapshot wires boxes
  pub over : AllNodesOver wires boxes snapshot

-- ---- stuck

abbrev pub last_status : Option Answer → Option Status
last_status None = None
last_status (Some (Prepared s)) = Some s
last_status (Some (Scheduled w)) = None

-- whether it is the last answer of a node that is over
abbrev pub is_finished : Option Answer → Bool
is_finished None = false
is_finished (Some (Prepared status.NeedData)) = false
is_finished (Some (Prepared status.PortFull)) = false
is_finished (Some (Prepared status.Ready)) = false
is_finished (Some (Prepared status.Async)) = false
is_finished (Some (Prepared status.ExpandPipeline)) = false
is_finished (Some (Prepared status.Finished)) = true
is_finished (Some (Scheduled w)) = false

-- whether the box's node is born and isn't over
abbrev pub is_unfinished : BoxPicture → Bool
is_unfinished p = is_some p.spec && not (is_finished p.notes.answer)

-- The born nodes that aren't over, with the last status of each, in order; the first box is that of
-- node n.
abbrev pub stuck_from : ℕ → List BoxPicture → List StuckNode
stuck_from n [] = []
stuck_from n (p ∷ boxes) =
    cond (is_unfinished p)
    (record { node = n; last = last_status p.notes.answer } ∷ stuck_from (suc n) boxes)
    (stuck_from (suc n) boxes)

-- the flags that were seen of a port are the port's; a producer may have seen a need that was taken
-- back
abbrev pub KnowsPort : Port → (seen port : Flags) → Type 0
KnowsPort (Input i) seen port = seen ≡ port
KnowsPort (Output o) seen port = ProducerKnows seen port

-- An end of an edge where nothing is left to be told: a box whose node isn't over knows the port,
-- and where the node is over the port is finished.
pub record EndSettled (q : Port) (p : BoxPicture) (port : Flags) : Type 0 where
  pub knows : is_unfinished p ≡ true → KnowsPort q (kept_flags p q) port
  pub over : is_unfinished p ≡ false → is_out_finished port ≡ true

-- The report lists all born nodes that aren't over, and each of them is at rest. Each edge's port
-- has flags of which nothing is left to be told. The named node is one of those listed, and its box
-- isn't lawful. The wires are those at the end.
pub record IsStuck (wires : List Wire) (boxes : List BoxPicture) (report : List StuckNode)
    (node : ℕ) : Type 0 where
  pub ports : ℕ → Flags
  pub settled : (e n : ℕ) (q : Port) → HasEdge wires n q e
      → EndSettled q (box_at boxes n) (ports e)
  pub lists : report ≡ stuck_from 0 boxes
  pub at_rest : (n : ℕ) → n < length boxes → is_unfinished (box_at boxes n) ≡ true
      → MayRest (box_at boxes n).notes.answer
  pub in_range : node < length boxes
  pub listed : is_unfinished (box_at boxes node) ≡ true
  pub unlawful : (box_at boxes node).lawful ≡ false

-- ---- faults

-- The box of a born node keeps the fault that it answered, with what is true then of every box and
-- of a lawful one.
pub record KeepsFault (f : WorkFault) (p : BoxPicture) : Type 0 where
  pub born : IsBorn p
  pub kept : p.notes.fault ≡ Some f
  pub holds : FaultHolds (Some f) p
  pub is_due : IsTrue p.lawful → FaultIsDue (Some f) p

-- the node's box keeps the fault, which isn't Memory
pub record IsFault (boxes : List BoxPicture) (node : ℕ) (f : WorkFault) : Type 0 where
  pub in_range : node < length boxes
  pub keeps : KeepsFault f (box_at boxes node)
  pub not_memory : f ≢ fault.Memory

-- ---- all boxes are given back

-- a blank box was loaded, when its node was born, and ran
pub record WasLoaded (p q : BoxPicture) : Type 0 where
  pub spec : Spec
  pub loaded : BoxPicture
  pub loads : Loads p spec loaded
  pub stays : StaysBox loaded q

-- a box is the same, with what it had besides, and a blank one is as it was or was loaded
pub record GivesBox (p q : BoxPicture) : Type 0 where
  pub born : IsBorn p → StaysBox p q
  pub unborn : p.spec ≡ None → (q ≡ p) ⊎ WasLoaded p q

-- the same boxes in their order
pub record GivenBack (before after : List BoxPicture) : Type 0 where
  pub count : length after ≡ length before
  pub each : (n : ℕ) → n < length before → GivesBox (box_at before n) (box_at after n)

-- ---- the cells, where nothing is due

abbrev pub boxes_of : List CellPicture → List BoxPicture
boxes_of cells = map (λ (c : CellPicture). c.box) cells

-- no node is due or at work
abbrev pub IsNothingDue : List CellPicture → Type 0
IsNothingDue cells = (n : ℕ) → n < length cells → is_waiting (cell_at cells n).mark.state ≡ false

-- the mark says what the box last answered: whether its node isn't over, and on what it rests then
pub record MarkTells (c : CellPicture) : Type 0 where
  pub unfinished : is_unfinished c.box ≡ is_resting c.mark.state
  pub last : is_resting c.mark.state ≡ true → last_status c.box.notes.answer ≡ c.mark.last
  pub may_rest : is_resting c.mark.state ≡ true → MayRest c.box.notes.answer

-- the view supports the last status of a node at rest
abbrev pub SupportsStatus : CellPicture → Type 0
SupportsStatus c = is_resting c.mark.state ≡ true → Rests c.mark.last c.view

-- the node rests, and its view contradicts its last status
pub record ContradictsStatus (c : CellPicture) : Type 0 where
  pub resting : is_resting c.mark.state ≡ true
  pub denied : Rests c.mark.last c.view → ⊥
