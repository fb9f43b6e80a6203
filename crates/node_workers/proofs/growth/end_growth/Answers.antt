use Rattle.node_workers.proofs.Imports.{arith, refl, ◌≤◌}
use Rattle.node_workers.proofs.GrowerLaws.{wires-in}
use Rattle.node_workers.proofs.GrowerOutputs.{edges-kept, grown-is-due, grown-knows, lost-inputs, lost-outputs}
use Rattle.node_workers.proofs.growth.end_growth.Goals as goal

pub get_ports-requires-clause-seat : goal.get_ports-requires-clause-seat
get_ports-requires-clause-seat g c κs within = rw c.requires.shared.table (lost-outputs
    c.requires.may.outputs c.requires.shared.reserves).seat

pub get_ports-requires-clause-wires : goal.get_ports-requires-clause-wires
get_ports-requires-clause-wires g c κs within =
    wires-in c.requires.may.outputs.wired c.requires.shared.table

pub overflow_cast-wires : goal.overflow_cast-wires
overflow_cast-wires g c = let kept = edges-kept c.requires.may.outputs c.requires.shared.reserves in
    grind (arith, c.law_of_edge_numbers.ensures, c.requires.shared.table)

pub take_growth-requires-clause-room : goal.take_growth-requires-clause-room
take_growth-requires-clause-room g c =
    grind (arith, edges-kept c.requires.may.outputs c.requires.shared.reserves)

pub take_growth-requires-clause-fits : goal.take_growth-requires-clause-fits
take_growth-requires-clause-fits g c =
    grind (arith, edges-kept c.requires.may.outputs c.requires.shared.reserves)

pub returns-clause-knows : goal.returns-clause-knows
returns-clause-knows g c = grown-knows c.requires.may.outputs c.requires.shared.reserves
    (rw c.requires.shared.table at c.in-Ok.ensures.ok)
    c.get_ports.ensures.processor c.get_ports.ensures.reserve c.take_growth.new.reserve
    (rw c.requires.may.places_are at c.take_growth.ensures) _ refl

pub returns-clause-due : goal.returns-clause-due
returns-clause-due g c = grown-is-due c.requires.may.outputs c.requires.shared.reserves
    (rw c.requires.shared.table at c.in-Ok.ensures.ok)
    c.get_ports.ensures.processor c.get_ports.ensures.reserve c.take_growth.new.reserve
    (rw c.requires.may.places_are at c.take_growth.ensures) _ refl

pub returns-in-Err-clause-lost : goal.returns-in-Err-clause-lost
returns-in-Err-clause-lost g c = lost-inputs c.requires.may.outputs c.requires.shared.reserves
    c.get_ports.new.cell (rw c.requires.shared.table at c.get_ports.ensures.seat)
    c.get_ports.ensures.number c.get_ports.ensures.processor
