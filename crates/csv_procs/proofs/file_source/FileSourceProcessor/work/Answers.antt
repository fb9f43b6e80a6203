use Rattle.csv_procs.proofs.Imports.{fails, shell_state, works}
use Rattle.csv_procs.proofs.SourceLaws.{fault-told, reads, tied-now}
use Rattle.csv_procs.proofs.file_source.FileSourceProcessor.work.Goals as goal

pub returns-clause-ok : goal.returns-clause-ok
returns-clause-ok g c =
    let K = g.K.Kernel in
    let r = g.R.FileReader.reader c.self.inside.reader in
    let l = c.in-Some.loaded in
    let m = c.work.new.self in
    rw (← c.self.view_is, c.in-Some.is)
    (works K.kind_is (reads r.files r.faults r.pendings) c.self.inside.pulled
    (shell_state (K.state l.kernel) l.held l.notes) (shell_state (K.state m.kernel) m.held m.notes)
    c.work.result (rw (← c.self.view_is, c.in-Some.is) at c.requires.running) c.work.ensures.ok)

pub returns-clause-fault : goal.returns-clause-fault
returns-clause-fault g c =
    let K = g.K.Kernel in
    let F = g.K.FileKernel in
    let r = g.R.FileReader.reader c.self.inside.reader in
    let l = c.in-Some.loaded in
    let m = c.work.new.self in
    let shows = g.met.K.FileKernel.shows l.kernel in
    let running = rw (← c.self.view_is, c.in-Some.is) at c.requires.running in
    rw (← c.self.view_is, c.in-Some.is) (fails K.kind_is
    (reads r.files r.faults r.pendings) c.self.inside.pulled
    (shell_state (K.state l.kernel) l.held l.notes) (shell_state (K.state m.kernel) m.held m.notes)
    c.work.result running c.work.ensures.fault
    c.work.ensures.fails
    (rw shows (fault-told r.files r.position r.faults r.pendings K.kind_is
    c.self.inside.pulled F.lists (F.part_of l.kernel) (F.file_of l.kernel) l.held l.notes
    g.met.K.FileKernel.kinds
    (tied-now r.files r.position F.lists (F.part_of l.kernel) (F.file_of l.kernel) l.held
    l.notes (rw (c.in-Some.is, shows) at c.self.invariant) running.faultless))))
