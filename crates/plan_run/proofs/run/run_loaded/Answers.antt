use Rattle.plan_run.proofs.Imports.{arith, refl}
use Rattle.plan_run.proofs.Loading.{map-len}
use Rattle.plan_run.proofs.Telling.{begun-with, gives-by, run-later, starting-born, still-left}
use Rattle.plan_run.proofs.run.run_loaded.Goals as goal

pub result_of-result-requires-clause-born : goal.result_of-result-requires-clause-born
result_of-result-requires-clause-born g c κs = search (arith, map-len, starting-born)

pub returns-clause-later : goal.returns-clause-later
returns-clause-later g c = run-later _ _ _ c.run_graph-boxes.ensures.back
    c.result_of-result.ensures.still

pub returns-clause-gives : goal.returns-clause-gives
returns-clause-gives g c =
    gives-by _ _ (still-left _ _ _ c.run_graph-boxes.ensures.back c.result_of-result.ensures.still)
    _ _ (begun-with c.args.form _ c.requires.starting) _ _ refl _
    (c.result_of-result.ensures.gives _ c.run_graph-boxes.ensures.end)
