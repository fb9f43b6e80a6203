use Rattle.std.proofs.Common.{arith}
use Rattle.query_run.proofs.Corollaries.{is_run}
use Rattle.query_run.proofs.top_call.run.Goals as goal

pub returns : goal.returns
returns g c = search (arith, is_run)
