use Rattle.proc_shell.proofs.Imports.{arith, false, refl, unasked}
use Rattle.proc_shell.proofs.PortSteps.{inputs-next, step-needs}
use Rattle.proc_shell.proofs.ports.ask_none.Goals as goal

pub loop-i-preserved : goal.loop-i-preserved
loop-i-preserved c =
    inputs-next unasked c.loop-i.i c.args.view.now c.loop-i.view c.set_not_needed.new.self
    (step-needs unasked false c.loop-i.i c.loop-i.view c.set_not_needed.new.self
    (omega (arith, c.inputs-i-end.ensures.count, c.loop-i.invariant.ins))
    c.set_not_needed.ensures refl) c.loop-i.invariant
