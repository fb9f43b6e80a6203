use Rattle.std.proofs.Common.{arith}
use Rattle.exec_laws.proofs.Growing.{follows-wide}
use Rattle.exec_tests.proofs.driven.widen.Goals as goal

pub returns-clause-follows : goal.returns-clause-follows
returns-clause-follows c = λ p f. rw c.in_ok-grow.ensures.ok
    (follows-wide c.args.view.now _ _ (omega (arith, c.inputs-inputs.ensures.count))
    (omega (arith, c.outputs-outputs.ensures.count)) p f)
