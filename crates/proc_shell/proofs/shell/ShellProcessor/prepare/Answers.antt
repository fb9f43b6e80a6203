use Rattle.proc_shell.proofs.Imports.{None}
use Rattle.proc_shell.proofs.shell.ShellProcessor.prepare.Goals as goal

pub returns-clause-lawful : goal.returns-clause-lawful
returns-clause-lawful g c = λ lawful.
    rw (← c.self.view_is, c.in-Some.is) (c.prepare.ensures.lawful None
    (rw (← c.self.view_is, c.in-Some.is) at c.requires.running)
    (rw (← c.self.view_is, c.in-Some.is) at c.requires.follows))
