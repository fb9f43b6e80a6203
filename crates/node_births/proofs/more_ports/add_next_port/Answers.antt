use Rattle.node_births.proofs.Imports.{ports_picture, ℕ, ◌+◌}
use Rattle.node_births.proofs.GainLaws.{one-port}
use Rattle.node_births.proofs.more_ports.add_next_port.Goals as goal

pub returns-in-Ok-clause-ok : goal.returns-in-Ok-clause-ok
returns-in-Ok-clause-ok c = let was = ports_picture c.args.ports.now c.args.seat.now in
    let is = ports_picture c.add_port.new.ports c.add_port.new.seat in
    one-port c.args.consumer c.args.first c.args.wires.now c.in-Some.k was is
    (rw (c.requires.seat.number, c.next_port-port.ensures) at c.in-Some.ensures)
    (rw (c.next_port-port.ensures, c.nth_wire-wire.ensures) at c.in-Ok.ensures.ok)
