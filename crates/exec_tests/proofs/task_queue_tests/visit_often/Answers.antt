use Rattle.std.proofs.Common.{ap, ◌∙◌, ◌∷◌}
use Rattle.task_queue.specs.Numbers.{times}
use Rattle.task_queue.proofs.Counts.{times-single, nil_from_let_go}
use Rattle.exec_tests.proofs.task_queue_tests.visit_often.Goals as goal

pub take-value-requires-clause-lacks : goal.take-value-requires-clause-lacks
take-value-requires-clause-lacks g c = λ κs lives. ap (times c.args.n) c.loop.invariant.none

pub put-requires-clause-holds : goal.put-requires-clause-holds
put-requires-clause-holds g c = λ κs lives.
    times-single c.args.n _ _ c.take-value.ensures.held c.loop.invariant.none

pub put-requires-clause-fits : goal.put-requires-clause-fits
put-requires-clause-fits g c = λ κs lives. c.visit.ensures c.args.n c.take-value.ensures.fits

pub loop-preserved : goal.loop-preserved
loop-preserved g c =
    let took = c.take-value.ensures in let left = c.put.ensures.left in
    let inv = c.loop.invariant in record {
      table = c.put.ensures.same.0 ∙ (took.same.0 ∙ inv.table);
      none = nil_from_let_go c.args.n _ _ (took.held ∙ ap (λ l. c.args.n ∷ l) inv.none)
          left.gone left.others;
      same = c.put.ensures.same.1 ∙ (took.same.1 ∙ inv.same);
    }
