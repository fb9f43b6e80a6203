use Rattle.node_births.proofs.Imports.{wired, ◌≡◌}
use Rattle.core_laws.specs.declared.types.Step.TheVariants as step
use Rattle.node_births.proofs.Learning.{wire-learned}
use Rattle.node_births.proofs.more_ports.learn_wire.Goals as goal

pub returns-in-Some-clause-learns : goal.returns-in-Some-clause-learns
returns-in-Some-clause-learns c = λ is.
    let same : c.in-Some.found ≡ c.args.wire = c.is_same.ensures is in
    wire-learned c.args.seat.now c.wired.new.seat c.args.e c.args.wire c.requires.seat
    c.requires.unknown (rw same at c.in-Some.ensures) c.requires.to
