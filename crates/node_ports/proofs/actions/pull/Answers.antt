use Rattle.node_ports.proofs.Imports.{None, Pull, Some, ports_picture, slot_of, subst, sym, ◌≡◌}
use Rattle.node_ports.proofs.ActLaws.{act-ready, acted, pulled-parts}
use Rattle.node_ports.proofs.actions.pull.Goals as goal

pub pull-requires-clause-ready : goal.pull-requires-clause-ready
pull-requires-clause-ready c = act-ready (Pull c.args.i)
    (ports_picture c.args.ports.now c.args.seat.now) c.requires.may c.requires.edge

pub pull-requires-clause-slot : goal.pull-requires-clause-slot
pull-requires-clause-slot c = subst (λ e. slot_of c.args.seat.now e ≡ Some None)
    (sym c.requires.edge) (pulled-parts c.args.i
    (ports_picture c.args.ports.now c.args.seat.now) c.requires.may).1

pub returns-clause-acted : goal.returns-clause-acted
returns-clause-acted c = acted _ _ c.args.ports.now c.requires.seat (Pull c.args.i) c.requires.may
    c.requires.edge c.pull.ensures
