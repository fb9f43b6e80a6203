use Rattle.node_ports.proofs.Imports.{Unwant, ports_picture}
use Rattle.node_ports.proofs.ActLaws.{act-ready, acted}
use Rattle.node_ports.proofs.actions.unwant.Goals as goal

pub unwant-requires-clause-ready : goal.unwant-requires-clause-ready
unwant-requires-clause-ready c = act-ready (Unwant c.args.i)
    (ports_picture c.args.ports.now c.args.seat.now) c.requires.may c.requires.edge

pub returns-clause-acted : goal.returns-clause-acted
returns-clause-acted c = acted _ _ c.args.ports.now c.requires.seat (Unwant c.args.i) c.requires.may
    c.requires.edge c.unwant.ensures
