use Rattle.proc_shell.proofs.Imports.{None, shell_state}
use Rattle.proc_shell.proofs.BoxLaws.{works}
use Rattle.proc_shell.proofs.shell.ShellProcessor.work.Goals as goal

pub returns-clause-ok : goal.returns-clause-ok
returns-clause-ok g c =
    let l = c.in-Some.loaded in
    let m = c.work.new.self in
    rw (← c.self.view_is, c.in-Some.is) (works g.K.Kernel.kind_is None c.self.inside.pulled
    (shell_state (g.K.Kernel.state l.kernel) l.held l.notes)
    (shell_state (g.K.Kernel.state m.kernel) m.held m.notes) c.work.result
    (rw (← c.self.view_is, c.in-Some.is) at c.requires.running) c.work.ensures.ok)
