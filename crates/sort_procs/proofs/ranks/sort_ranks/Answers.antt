use Rattle.std.proofs.Common.{ap, rules}
use Rattle.sort_procs.proofs.Imports.{always_returns_same, is_lt}
use Rattle.sort_procs.proofs.RankLaws.{before, before-order}
use Rattle.sort_procs.proofs.ranks.sort_ranks.Goals as goal

pub returns-clause-sorted : goal.returns-clause-sorted
returns-clause-sorted c =
    c.sort_unstable_by.ensures.sorted (before c.args.rows.now c.args.keys.now)
    (before-order c.args.rows.now c.args.keys.now)
    (always_returns_same _ _ _ (λ a r f k. (ap is_lt (search rules), search rules)))
