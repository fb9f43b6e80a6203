use Rattle.node_ports.proofs.Imports.{Close, ports_picture}
use Rattle.node_ports.proofs.ActLaws.{act-ready, acted}
use Rattle.node_ports.proofs.actions.close.Goals as goal

pub close_port-requires-clause-ready : goal.close_port-requires-clause-ready
close_port-requires-clause-ready c = act-ready (Close c.args.i)
    (ports_picture c.args.ports.now c.args.seat.now) c.requires.may c.requires.edge

pub returns-clause-acted : goal.returns-clause-acted
returns-clause-acted c = acted _ _ c.args.ports.now c.requires.seat (Close c.args.i) c.requires.may
    c.requires.edge c.close_port.ensures
