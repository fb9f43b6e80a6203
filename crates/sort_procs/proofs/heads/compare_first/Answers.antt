use Rattle.std.proofs.Common.{ap, ◌∙◌}
use Rattle.sort_procs.proofs.Imports.{leb-false, ranked_cmp}
use Rattle.sort_procs.proofs.HeadLaws.{heads-tell, in-ranks}
use Rattle.sort_procs.proofs.heads.compare_first.Goals as goal

pub get-first-requires : goal.get-first-requires
get-first-requires c = in-ranks c.args.order.now c.args.head.now c.requires.here _
    (leb-false _ _ c.requires.some)

pub get-row-requires : goal.get-row-requires
get-row-requires c =
    in-ranks c.args.order.now c.args.other.now c.requires.there _ c.requires.within

pub returns : goal.returns
returns c =
    let head = c.args.head.now in
    let other = c.args.other.now in
    c.compare_ranked.ensures
    ∙ ap (λ keys. ranked_cmp head.chunk other.chunk keys c.get-first.result.now
    c.get-row.result.now) c.as_slice-keys.ensures
    ∙ heads-tell c.args.order.now head other _ _ _ _ c.requires.here c.requires.there
    (leb-false _ _ c.requires.some) c.requires.within c.get-first.ensures c.get-row.ensures
