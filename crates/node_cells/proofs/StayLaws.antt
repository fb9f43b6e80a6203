-- What stays of a cell over the calls of a turn.
use Rattle.node_cells.proofs.Imports.{arith, BoxPicture, EdgeEnd, Identity, IsSeatOf, MakesStep, NodeCell, NodePorts, NodeSeat, NodeTurns, None, Option, SamePorts, StepAnswer, ap, cell_ports, end_of_view, false, ports_picture, view, ℕ, ◌≡◌, List, Wire, PortsPicture}
use Rattle.core_laws.specs.declared.types.Step.{Step}
use Rattle.exec_table.proofs.Ends.{same-made}
use Rattle.exec_table.specs.Known.{is_at}
use Rattle.chunk_data.specs.Names.{Table as Chunk}
use Rattle.node_cells.specs.Stops.{GrowthStays}
use Rattle.node_cells.specs.Turns.{KeepsProcessor, Stays, turn_picture}
use Rattle.node_cells.specs.declared.stop_cause.StopCause.{StopCause}
use Rattle.node_ports.proofs.LoopLaws.{ports-both, edge-stays}
use Rattle.exec_laws.proofs.Acting.{stays-both, stays-itself}
use Rattle.exec_table.specs.declared.types.Updated.{Updated}
use Rattle.node_cells.specs.Ends.{HasPlaces}

-- what stays of a growth over calls one after another, of which only the last may stop the run
pub growth-both : (o : Option StopCause) (p q r : BoxPicture) → r.lawful ≡ q.lawful
    → GrowthStays None p q → GrowthStays o q r → GrowthStays o p r
growth-both o p q r s h k = grind arith

module _ {P : Type 0} (seen : P → BoxPicture) where
  pub keeps-stays : (a b : NodeCell P) → KeepsProcessor a b → Stays seen None a b
  keeps-stays a b h = grind (arith, stays-itself)

  pub stay-both : (o : Option StopCause) (a b c : NodeCell P) → Stays seen None a b
      → Stays seen o b c → Stays seen o a c
  stay-both o a b c h k = grind (arith, stays-both, growth-both, ports-both)

  -- over one turn more
  pub stay-turn : (o : Option StopCause) (a b c d e : NodeCell P) → Stays seen None a b
      → Stays seen None b c → KeepsProcessor c d → Stays seen o d e → Stays seen o a e
  stay-turn o a b c d e h k m l = grind (arith, stay-both, keeps-stays)

  pub turned-stays : (old new : NodeCell P)
      → NodeTurns (turn_picture seen old) (turn_picture seen new)
      → (seen new.processor).growth ≡ (seen old.processor).growth
      → cell_ports new ≡ record (cell_ports old) { view = new.ports.view }
      → new.reserve ≡ old.reserve → Stays seen None old new
  turned-stays old new turns growth ports reserve = grind arith

-- a step of the seat leaves its node, whatever ports are updated ones after it
pub number-ports : (p : NodePorts) (u : Updated) (old new : NodeSeat)
    → (view new).number ≡ (view old).number
    → ((e : ℕ) → (end_of_view (view new) e).wire ≡ (end_of_view (view old) e).wire)
    → SamePorts (ports_picture p old) (ports_picture (record p { updated = u }) new)
number-ports p u old new q wires = grind arith

-- a step at no edge leaves the wires
pub wires-still : {t : Identity} {old new : NodeSeat} {s : Step} {x : Option Chunk} {a : StepAnswer}
    → IsSeatOf t old → MakesStep t old new s x a → ((d : ℕ) → is_at d s ≡ false) → (e : ℕ)
    → (end_of_view (view new) e).wire ≡ (end_of_view (view old) e).wire
wires-still o m nowhere e = ap (λ (z : EdgeEnd). z.wire) (same-made o m e (nowhere e)).end

-- the same ports have the same places
pub same-places : (wires : List Wire) (table_edge : ℕ → ℕ) (n : ℕ) (inputs outputs : List ℕ)
    (c d : PortsPicture) → SamePorts c d → HasPlaces wires table_edge n inputs outputs c
    → HasPlaces wires table_edge n inputs outputs d
same-places wires table_edge n inputs outputs c d s h = grind (arith, edge-stays)
