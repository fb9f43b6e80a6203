use Rattle.proc_shell.proofs.Imports.{arith}
use Rattle.proc_shell.proofs.BoxLaws.{continues-so}
use Rattle.proc_shell.proofs.loaded.Loaded.work.Goals as goal

pub returns-in-Ok-clause-ok : goal.returns-in-Ok-clause-ok
returns-in-Ok-clause-ok g c = grind (
  arith,
  continues-so,
  g.met.K.Kernel.of_kind c.args.self.now.kernel,
  g.met.K.Kernel.shelled c.args.self.now.kernel,
  g.met.K.Kernel.uses c.held_after_work.new.kernel,
)
