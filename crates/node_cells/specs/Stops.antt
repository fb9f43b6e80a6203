-- What stops the run of all at a node, and what the node keeps then.
use Rattle.std.specs.Prelude.{Err, IsTrue, List, None, Ok, Option, Result, Some, true, ⊤, ◌≡◌}
use Rattle.exec_laws.specs.Growths.{Left}
use Rattle.exec_laws.specs.Names.{IsBorn, KeepsFault}
use Rattle.exec_laws.specs.Prelude.{BoxPicture, GrowthForm, MayGrow}
use Rattle.exec_laws.specs.declared.growth.GrowthFlaw.{GrowthFlaw}
use Rattle.graph_checks.specs.Flaws.{flaw_over}
use Rattle.graph_checks.specs.OwnWires.{own_wires}
use Rattle.node_cells.specs.Cells.{cell_ports}
use Rattle.node_cells.specs.declared.cell.NodeCell.{NodeCell}
use Rattle.node_cells.specs.declared.cell.NodeReserve.{NodeReserve}
use Rattle.node_cells.specs.declared.stop_cause.StopCause.{StopCause}
use Rattle.node_cells.specs.declared.stop_cause.StopCause.TheVariants as cause
use Rattle.node_ports.specs.Ports.{PortsHold}
use Rattle.port_word.specs.declared.flags.Wire.{Wire}
use Rattle.proc_api.specs.declared.status.WorkFault.{WorkFault}

abbrev pub left_in : NodeReserve → Left
left_in r = record { blanks = r.blanks.items; edges = r.edges }

-- the wires at the node, as it knows them
abbrev pub wires_known : {P : Type 0} → NodeCell P → List Wire
wires_known c = own_wires c.seat.node c.ports.sources.items c.ports.targets.items

-- the first flaw of a growth of the node, by what the node itself knows
abbrev pub own_flaw : {P : Type 0} → NodeCell P → GrowthForm → Option GrowthFlaw
own_flaw c g =
    flaw_over c.reserve.rank c.reserve.nodes (wires_known c) (left_in c.reserve) c.seat.node g

-- the box of a born node was asked by what the graph grows, and keeps a growth with that flaw; a
-- lawful box may give it
pub record KeepsFlaw {P : Type 0} (seen : P → BoxPicture) (f : GrowthFlaw) (c : NodeCell P)
    : Type 0 where
  pub born : IsBorn (seen c.processor)
  pub growth : GrowthForm
  pub kept : (seen c.processor).growth ≡ Some growth
  pub acted : (seen c.processor).notes.acted ≡ true
  pub flawed : own_flaw c growth ≡ Some f
  pub may_grow : let p : BoxPicture = seen c.processor in
      IsTrue p.lawful → MayGrow p.spec p.files (Some growth)
  pub ports : PortsHold (cell_ports c)

-- what a node keeps at which the run was stopped
abbrev pub StopHolds : {P : Type 0} → (P → BoxPicture) → StopCause → NodeCell P → Type 0
StopHolds seen (cause.Fault f) c = KeepsFault f (seen c.processor)
StopHolds seen (cause.Flaw f) c = KeepsFlaw seen f c
StopHolds seen cause.Memory c = ⊤

-- why a call of the processor stops the run, if it does: for a fault
abbrev pub stop_of : {A : Type 0} → Result A WorkFault → Option StopCause
stop_of (Ok x) = None
stop_of (Err f) = Some (cause.Fault f)

-- What calls leave of the growth that a box keeps. A lawful one grew by nothing, unless the run was
-- stopped for that, and then it had grown by nothing before.
abbrev pub GrowthStays : Option StopCause → BoxPicture → BoxPicture → Type 0
GrowthStays None p q = IsTrue q.lawful → q.growth ≡ p.growth
GrowthStays (Some (cause.Fault f)) p q = IsTrue q.lawful → q.growth ≡ p.growth
GrowthStays (Some (cause.Flaw f)) p q = IsTrue q.lawful → p.growth ≡ None
GrowthStays (Some cause.Memory) p q = ⊤
