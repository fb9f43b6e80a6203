use Rattle.csv_procs.proofs.Imports.{Paths, sourcing, true, ◌∙◌}
use Rattle.csv_procs.proofs.SourceLaws.{by-paths, tied-now}
use Rattle.csv_procs.proofs.file_source.FileSourceProcessor.expand.Goals.{in-Err, in-Ok}
use Rattle.csv_procs.proofs.file_source.FileSourceProcessor.expand.Goals as goal

pub returns-clause-ok : goal.returns-clause-ok
returns-clause-ok g c = elim c.match-grow.branch [
  | in-Ok w ↦
      let F = g.K.FileKernel in
      let r = g.R.FileReader.reader c.self.inside.reader in
      let l = c.in-Some.loaded in
      let x = w.in-Ok.ensures.grows in
      let shows = g.met.K.FileKernel.shows in
      let now = shows c.grow.new.self
      ∙ (λ i. sourcing (x.is_list i) (c.grow.ensures.part i) (F.file_of c.grow.new.self))
      ∙ x.new_is in
      let running = rw (← c.self.view_is, c.in-Some.is) at c.requires.running in
      rw (
        w.result-is,
        w.self-inside-is,
        w.note_act.ensures,
        ← c.self.view_is,
        c.in-Some.is,
        now,
        shows l.kernel,
        ← g.met.K.FileKernel.kinds,
        x.is_list,
        x.old_is,
      ) (by-paths r.files r.position r.faults r.pendings c.self.inside.pulled
      (F.part_of l.kernel) l.held l.notes w.in-Ok.growth
      (rw (← c.self.view_is, c.in-Some.is) at c.requires.expanding.0) running.faultless x.before
      x.valid x.ungrown x.names_path x.is (tied-now r.files r.position true
      (F.part_of l.kernel) (Paths x.before) l.held l.notes
      (rw (c.in-Some.is, shows l.kernel, x.is_list, x.old_is) at c.self.invariant)
      running.faultless))
  | in-Err w ↦ rw w.result-is tt
]
