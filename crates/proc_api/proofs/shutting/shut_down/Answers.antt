use Rattle.proc_api.proofs.Imports.{arith, changed-by-both}
use Rattle.proc_api.proofs.ShutPorts.{closes-next}
use Rattle.proc_api.proofs.shutting.shut_down.Goals as goal

pub loop-i-preserved : goal.loop-i-preserved
loop-i-preserved c =
    closes-next c.loop-i.i c.args.view.now c.loop-i.view c.close.new.self
    (omega (arith, c.inputs-i-end.ensures.count)) c.close.ensures c.loop-i.invariant

pub returns-clause-changed : goal.returns-clause-changed
returns-clause-changed c = search (arith, changed-by-both)
