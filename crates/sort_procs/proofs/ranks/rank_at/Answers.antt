use Rattle.std.proofs.Common.{arith}
use Rattle.sort_procs.proofs.Imports.{length-values}
use Rattle.sort_procs.proofs.ranks.rank_at.Goals as goal

pub stored_rank-requires : goal.stored_rank-requires
stored_rank-requires c = grind (arith, length-values c.args.column.now)
