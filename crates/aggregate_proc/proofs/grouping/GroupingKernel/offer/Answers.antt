use Rattle.aggregate_proc.proofs.Imports.{grouping_own, in_count, open_for, out_count}
use Rattle.aggregate_proc.proofs.GroupingLaws.{comes, offers, one-input}
use Rattle.aggregate_proc.proofs.grouping.GroupingKernel.offer.Goals as goal

pub returns-then-inputs_over-clause-offers : goal.returns-then-inputs_over-clause-offers
returns-then-inputs_over-clause-offers g c =
    let merges = g.G.Grouped.merges in
    let k = c.args.self.now in
    let v = c.args.view.now in
    let new = grouping_own merges c.note_end.new.self in
    let one = one-input merges k.group (in_count v) (out_count v) c.requires in
    offers merges k.group (open_for merges) v (grouping_own merges k) new c.next_offer.result
    (c.inputs_over.ensures.0 c.if-inputs_over.true) c.note_end.ensures.notes
    (comes merges k.group v new c.next_offer.result c.next_offer.ensures one
    (λ over. c.note_end.ensures.notes.ended))
