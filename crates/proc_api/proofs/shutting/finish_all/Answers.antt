use Rattle.proc_api.proofs.Imports.{arith}
use Rattle.proc_api.proofs.ShutPorts.{finishes-next}
use Rattle.proc_api.proofs.shutting.finish_all.Goals as goal

pub loop-o-preserved : goal.loop-o-preserved
loop-o-preserved c = finishes-next c.loop-o.o c.args.view.now c.loop-o.view c.finish.new.self
    (omega (arith, c.outputs-o-end.ensures.count)) c.finish.ensures c.loop-o.invariant
