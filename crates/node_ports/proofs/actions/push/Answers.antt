use Rattle.node_ports.proofs.Imports.{None, Push, Some, ports_picture, slot_of, subst, sym, ◌≡◌}
use Rattle.node_ports.proofs.ActLaws.{act-ready, acted, push-slot}
use Rattle.node_ports.proofs.actions.push.Goals as goal

pub push-requires-clause-ready : goal.push-requires-clause-ready
push-requires-clause-ready c = act-ready (Push c.args.o c.args.chunk)
    (ports_picture c.args.ports.now c.args.seat.now) c.requires.may c.requires.edge

pub push-requires-clause-slot : goal.push-requires-clause-slot
push-requires-clause-slot c = subst (λ e. slot_of c.args.seat.now e ≡ Some None)
    (sym c.requires.edge) (push-slot c.args.o c.args.chunk
    (ports_picture c.args.ports.now c.args.seat.now) c.requires.may)

pub returns-clause-acted : goal.returns-clause-acted
returns-clause-acted c = acted _ _ c.args.ports.now c.requires.seat (Push c.args.o c.args.chunk)
    c.requires.may c.requires.edge c.push.ensures
