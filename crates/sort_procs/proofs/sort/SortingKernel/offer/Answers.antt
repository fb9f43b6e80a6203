use Rattle.std.proofs.Common.{arith}
use Rattle.proc_shell.specs.declared.kernel.Offer.TheVariants.{Rows}
use Rattle.sort_procs.proofs.SortingLaws.{none-made, offers, wants-come}
use Rattle.sort_procs.proofs.sort.SortingKernel.offer.Goals as goal

pub returns-then-can_make-clause-offers : goal.returns-then-can_make-clause-offers
returns-then-can_make-clause-offers c =
    let s = c.args.self.now in
    offers s.order s.places.items s.next s.front s.rows _ c.args.view.now s.ended
    c.in_finished.result
    c.either-self.result s.ranked Rows c.either-self.ensures s.ends c.requires.0
    c.in_finished.ensures (c.can_make.ensures.rows.0 c.if-can_make.true)

pub returns-else-can_make-clause-offers : goal.returns-else-can_make-clause-offers
returns-else-can_make-clause-offers c = search (arith, offers, wants-come, none-made)
