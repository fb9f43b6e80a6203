use Rattle.csv_procs.proofs.Imports.{IsSourceKind, inl, subst, sym, ◌∙◌}
use Rattle.csv_procs.proofs.KernelLaws.{reads-file}
use Rattle.csv_procs.proofs.file_source.FileSourceProcessor.kind.Goals as goal

pub returns-clause-reader : goal.returns-clause-reader
returns-clause-reader g c = inl (subst IsSourceKind (g.met.K.FileKernel.kinds ∙ sym c.kind.ensures)
    (reads-file g.K.FileKernel.lists))
