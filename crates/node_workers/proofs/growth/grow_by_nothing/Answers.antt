use Rattle.node_workers.proofs.Imports.{growth_form, refl}
use Rattle.node_workers.proofs.GrowerLaws.{lost-asked}
use Rattle.node_workers.proofs.GrowthLaws.{grown-due, grown-stays, nothing-grown, unlawful-grew}
use Rattle.node_workers.proofs.growth.grow_by_nothing.Goals as goal

pub returns-then-names_nothing-clause-grown : goal.returns-then-names_nothing-clause-grown
returns-then-names_nothing-clause-grown g c = let seen = g.P.Processor.seen in
    let t = g.J.Naming.names.identity in let h = c.requires in let f = h.flawless in
    let form = growth_form c.args.growth.now.noted.growth in
    nothing-grown h (grown-due seen t form h.stored c.args.named.now.cell f.growing f.same
    (c.if-names_nothing.ensures.edges refl) _ refl) (grown-stays seen t form h.stored
    c.args.named.now.cell f.growing f.same f.stays _ _ (λ l. absurd (unlawful-grew form _ _
    f.growing.grew (c.if-names_nothing.ensures.nodes refl) l))) refl

pub returns-else-names_nothing-clause-lost : goal.returns-else-names_nothing-clause-lost
returns-else-names_nothing-clause-lost g c = lost-asked c.requires
