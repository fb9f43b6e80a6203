use Rattle.node_ports.proofs.Imports.{Acted, Want, ap, not, ports_picture, subst, sym}
use Rattle.node_ports.proofs.ActLaws.{act-ready, acted}
use Rattle.node_ports.proofs.actions.want.Goals as goal

pub want-requires-clause-ready : goal.want-requires-clause-ready
want-requires-clause-ready c = act-ready (Want c.args.i)
    (ports_picture c.args.ports.now c.args.seat.now) c.requires.may c.requires.edge

pub returns-clause-acted : goal.returns-clause-acted
returns-clause-acted c = subst (Acted (Want c.args.i)
    (ports_picture c.args.ports.now c.args.seat.now) _) (ap not (sym c.is_needed-was.ensures))
    (acted _ _ c.args.ports.now c.requires.seat (Want c.args.i) c.requires.may c.requires.edge
    c.want.ensures)
