use Rattle.proc_shell.proofs.Imports.{arith}
use Rattle.proc_shell.proofs.loaded.begun.Goals as goal

pub returns : goal.returns
returns g c = search (arith, g.met.K.Kernel.uses)
