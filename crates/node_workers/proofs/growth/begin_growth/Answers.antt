use Rattle.node_workers.proofs.Imports.{crosses, sendable, ◌∙◌}
use Rattle.node_workers.proofs.GrowerLaws.{asked-wires, lost-own, wires-in}
use Rattle.node_workers.proofs.SentNotes.{noted_sent}
use Rattle.node_workers.proofs.growth.begin_growth.Goals as goal

pub append-requires-send-G : goal.append-requires-send-G
append-requires-send-G g c κs = search (sendable, crosses, noted_sent)

pub get_ports-requires-clause-seat : goal.get_ports-requires-clause-seat
get_ports-requires-clause-seat g c κs within = rw c.requires.shared.table
    c.requires.asked.flawless.growing.seat

pub get_ports-requires-clause-wires : goal.get_ports-requires-clause-wires
get_ports-requires-clause-wires g c κs within = wires-in (asked-wires c.requires.asked
    c.requires.shared.reserves c.requires.wires) c.requires.shared.table

pub returns-in-Ok-clause-ok : goal.returns-in-Ok-clause-ok
returns-in-Ok-clause-ok g c = record {
  asked = c.args.cell.now;
  is_asked = c.requires.asked;
  note_of = c.append.ensures.note ∙ c.requires.shared.notes_are;
  ends = record { reserve_is = c.append.ensures.reserve; noted_is = c.append.ensures.noted };
  wired = asked-wires c.requires.asked c.requires.shared.reserves c.requires.wires;
  got = rw c.requires.shared.table at c.in-Ok.ensures.ok;
  processor = c.get_ports.ensures.processor;
  reserve = c.get_ports.ensures.reserve;
}

pub returns-in-Err-clause-lost : goal.returns-in-Err-clause-lost
returns-in-Err-clause-lost g c = lost-own c.requires.asked c.requires.shared.reserves
    (c.append.ensures.note ∙ c.requires.shared.notes_are) record {
      reserve_is = c.append.ensures.reserve;
      noted_is = c.append.ensures.noted;
    } c.get_ports.new.cell (rw c.requires.shared.table at c.get_ports.ensures.seat)
    c.get_ports.ensures.number c.get_ports.ensures.processor
