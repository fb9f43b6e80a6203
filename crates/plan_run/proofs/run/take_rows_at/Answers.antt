use Rattle.plan_run.proofs.Imports.{arith}
use Rattle.plan_run.proofs.Loading.{same-still, still-at}
use Rattle.plan_run.proofs.run.take_rows_at.Goals as goal

pub returns-clause-still : goal.returns-clause-still
returns-clause-still g c = search (arith, still-at, same-still)
