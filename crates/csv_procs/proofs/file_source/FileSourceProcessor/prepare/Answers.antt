use Rattle.csv_procs.proofs.SourceLaws.{reads}
use Rattle.csv_procs.proofs.file_source.FileSourceProcessor.prepare.Goals as goal

pub returns-clause-lawful : goal.returns-clause-lawful
returns-clause-lawful g c = λ lawful.
    let r = g.R.FileReader.reader c.self.inside.reader in
    rw (← c.self.view_is, c.in-Some.is)
    (c.prepare.ensures.lawful (reads r.files r.faults r.pendings)
    (rw (← c.self.view_is, c.in-Some.is) at c.requires.running)
    (rw (← c.self.view_is, c.in-Some.is) at c.requires.follows))
