use Rattle.sort_procs.proofs.RankLaws.{ranks-more, ranks-none}
use Rattle.sort_procs.proofs.ranks.ranks_of.Goals as goal

pub loop-place-init : goal.loop-place-init
loop-place-init c =
    let r = ranks-none c.args.rows.now c.args.keys.now c.in_ok-ranks.ranks.items
    c.in_ok-ranks.ensures.items in
    record { places = r.0; ranked = r.1 }

pub loop-place-preserved : goal.loop-place-preserved
loop-place-preserved c =
    let s = c.loop-place.invariant in
    let r = ranks-more c.args.rows.now c.args.keys.now c.loop-place.ranks.items
    c.push.new.self.items c.loop-place.place c.rank_row.result c.rank_row.ensures.place
    c.rank_row.ensures.ranks c.in_ok-push.ensures.items s.places s.ranked in
    record { places = r.0; ranked = r.1 }
