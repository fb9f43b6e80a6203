use Rattle.proc_shell.proofs.Imports.{arith}
use Rattle.proc_shell.proofs.PortSteps.{inputs-next}
use Rattle.proc_shell.proofs.ports.close_each.Goals as goal

pub loop-i-preserved : goal.loop-i-preserved
loop-i-preserved c = search (arith, inputs-next)
