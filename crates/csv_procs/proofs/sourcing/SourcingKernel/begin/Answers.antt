use Rattle.csv_procs.proofs.KernelLaws.{source-begins}
use Rattle.csv_procs.proofs.sourcing.SourcingKernel.begin.Goals as goal

pub returns-in-Ok-clause-begins : goal.returns-in-Ok-clause-begins
returns-in-Ok-clause-begins g c =
    source-begins g.S.Sourced.lists c.args.spec c.part_of-part.result c.requires
    c.part_of-part.ensures
