use Rattle.csv_procs.proofs.Imports.{GivesLeft, Some, rules, subst, ◌≡◌}
use Rattle.csv_procs.proofs.KernelLaws.{takes-list}
use Rattle.csv_procs.proofs.sourcing.SourcingKernel.take.Goals as goal

pub returns-in_ok-given-in-Paths-clause-takes : goal.returns-in_ok-given-in-Paths-clause-takes
returns-in_ok-given-in-Paths-clause-takes g c = λ wanted.
    let k = c.args.self.now in
    let t = c.args.chunk in
    let new = c.give_left.new.self in
    let given = c.in_ok-given-in-Paths.given in
    let fit : t.types ≡ k.part.types = search rules in
    let list = rw c.in-Paths.is at k.read in
    rw (← list, c.in-Paths.is) (takes-list k.part c.in-Paths.list new c.args._input t given
    c.requires fit (subst (λ m. GivesLeft m (Some t) new.left given) c.most_rows-most.ensures
    c.in_ok-given-in-Paths.ensures.gives) (rw c.in-Paths.is at wanted))
