use Rattle.std.proofs.Common.{subst, ◌∙◌}
use Rattle.query_model.specs.declared.processor_spec.Spec.TheVariants as spec
use Rattle.sort_procs.proofs.Imports.{Makes, PutsInOrder, sorting_own_of}
use Rattle.sort_procs.proofs.SortingLaws.{makes-after}
use Rattle.sort_procs.proofs.sort.SortingKernel.make.Goals as goal

pub returns-in-Ok-next_chunk-clause-makes : goal.returns-in-Ok-next_chunk-clause-makes
returns-in-Ok-next_chunk-clause-makes c =
    let s = c.args.self.now in
    let ranked = sorting_own_of c.rank_rows.new.self in
    let mid = sorting_own_of c.extend_front.new.self in
    let new = sorting_own_of c.next_chunk.new.self in
    let made = c.in-Ok-next_chunk.made in
    subst (λ own. Makes (spec.Sort s.order) own new made) c.in-Ok.ensures.same
    (makes-after s.order ranked mid new made
    (subst (λ order. PutsInOrder order.keys ranked mid) c.in-Ok.ensures.order
    c.extend_front.ensures.puts)
    (subst (λ order. Makes (spec.Sort order) mid new made)
    (c.extend_front.ensures.order ∙ c.in-Ok.ensures.order) c.in-Ok-next_chunk.ensures.makes))
