use Rattle.node_ports.proofs.Imports.{Finish, ports_picture}
use Rattle.node_ports.proofs.ActLaws.{act-ready, acted}
use Rattle.node_ports.proofs.actions.finish.Goals as goal

pub finish-requires-clause-ready : goal.finish-requires-clause-ready
finish-requires-clause-ready c = act-ready (Finish c.args.o)
    (ports_picture c.args.ports.now c.args.seat.now) c.requires.may c.requires.edge

pub returns-clause-acted : goal.returns-clause-acted
returns-clause-acted c = acted _ _ c.args.ports.now c.requires.seat (Finish c.args.o) c.requires.may
    c.requires.edge c.finish.ensures
