use Rattle.sort_procs.proofs.RankLaws.{places-within, rows-gathered}
use Rattle.std.proofs.Common.{arith, length, ◌∙◌}
use Rattle.sort_procs.proofs.ranks.gather_ranked.Goals as goal

pub gather-requires : goal.gather-requires
gather-requires c = places-within c.args.ranks.now (length c.args.rows.now.rows)
    c.loop-ranked.ranked-index c.as_slice.result.now c.loop-ranked-test.false
    (c.as_slice.ensures.value ∙ c.loop-ranked.invariant) c.requires

pub returns-clause-rows : goal.returns-clause-rows
returns-clause-rows c = grind (arith, rows-gathered)
