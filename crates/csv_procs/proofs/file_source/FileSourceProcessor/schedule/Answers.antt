use Rattle.csv_procs.proofs.SourceLaws.{fault-of, ok-of, placed-of}
use Rattle.csv_procs.proofs.file_source.FileSourceProcessor.schedule.Goals as goal

pub returns-clause-ok : goal.returns-clause-ok
returns-clause-ok g c =
    let l = c.in-Some.loaded in
    let x = c.feed-fed.ensures.steps in
    let y = c.keep_fed.ensures.notes in
    let shows = g.met.K.FileKernel.shows in
    rw (
      ← c.self.view_is,
      c.keep_fed.ensures.same,
      c.in-Some.is,
      y.kernel,
      y.held,
      y.notes,
      shows l.kernel,
      shows c.feed-fed.new.self,
      c.feed-fed.ensures.part,
      ← g.met.K.FileKernel.kinds,
      x.after.told,
      x.only,
    ) (ok-of _ _ c.self.inside.pulled g.K.FileKernel.lists _ l.held l.notes _ _ _ _ _ _
    (rw (← c.self.view_is, c.in-Some.is) at c.requires.running).faultless
    (rw x.only at x.comes))

pub returns-clause-fault : goal.returns-clause-fault
returns-clause-fault g c =
    let l = c.in-Some.loaded in
    let x = c.feed-fed.ensures.steps in
    let y = c.keep_fed.ensures.notes in
    let shows = g.met.K.FileKernel.shows in
    rw (
      ← c.self.view_is,
      c.keep_fed.ensures.same,
      c.in-Some.is,
      y.kernel,
      y.held,
      y.notes,
      shows l.kernel,
      shows c.feed-fed.new.self,
      c.feed-fed.ensures.part,
      ← g.met.K.FileKernel.kinds,
      x.after.told,
      x.only,
    ) (fault-of _ _ c.self.inside.pulled g.K.FileKernel.lists _ l.held l.notes _ _ _ _ _ _
    (rw x.only at x.comes))

pub returns-clause-placed : goal.returns-clause-placed
returns-clause-placed g c = λ lawful.
    let l = c.in-Some.loaded in
    let x = c.feed-fed.ensures.steps in
    let y = c.keep_fed.ensures.notes in
    let shows = g.met.K.FileKernel.shows in
    rw (
      c.keep_fed.ensures.same,
      y.kernel,
      y.held,
      y.notes,
      shows c.feed-fed.new.self,
      c.feed-fed.ensures.part,
      ← g.met.K.FileKernel.kinds,
      x.after.told,
      x.only,
    ) (placed-of _ _ c.self.inside.pulled g.K.FileKernel.lists _ l.held l.notes _ _ _ _ _ _
    (rw x.only at x.comes))
