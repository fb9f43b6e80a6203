use Rattle.node_births.proofs.Learning.{wire-set}
use Rattle.node_births.proofs.more_ports.set_wire.Goals as goal

pub returns-in-Ok-clause-learns : goal.returns-in-Ok-clause-learns
returns-in-Ok-clause-learns c = λ _. wire-set _ _ _ _ c.requires.seat c.requires.unknown
    c.in-Ok.ensures
