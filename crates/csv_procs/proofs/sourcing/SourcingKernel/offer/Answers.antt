use Rattle.csv_procs.proofs.KernelLaws.{cast, next-offers, next-reads, ports-are}
use Rattle.csv_procs.proofs.sourcing.SourcingKernel.offer.Goals as goal

pub returns-clause-reads : goal.returns-clause-reads
returns-clause-reads g c =
    let k = c.args.self.now in
    next-reads g.S.Sourced.lists k.part k.state k.read c.next_of.result c.next_of.ensures

pub returns-clause-offers : goal.returns-clause-offers
returns-clause-offers g c =
    let k = c.args.self.now in
    next-offers g.S.Sourced.lists k.part k.state k.read c.args._view.now c.next_of.result
    c.next_of.ensures
    (cast _ _ (ports-are g.S.Sourced.lists k.part k.state k.read _ _) c.requires)
