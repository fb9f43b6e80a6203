use Rattle.std.proofs.Common.{arith, refl}
use Rattle.sort_procs.proofs.Imports.{length_permutation}
use Rattle.sort_procs.proofs.RankLaws.{puts-front}
use Rattle.sort_procs.proofs.ranks.put_front.Goals as goal

pub returns-clause-puts : goal.returns-clause-puts
returns-clause-puts c =
    let split = c.split_ranks-count.ensures in
    let same = length_permutation _ _ split.same in
    puts-front c.args.rows.now c.args.keys.now c.split_ranks-count.result c.args.ranks.now
    c.split_ranks-count.new.ranks c.sort_ranks.new.ranks _ split.same split.split
    (omega (arith, split.few, same)) c.sort_ranks.ensures.same c.sort_ranks.ensures.sorted refl
