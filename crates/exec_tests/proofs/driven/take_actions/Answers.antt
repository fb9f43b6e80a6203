use Rattle.proc_api.proofs.Follows.{follows-first}
use Rattle.exec_tests.proofs.driven.take_actions.Goals as goal

pub loop-turn-preserved : goal.loop-turn-preserved
loop-turn-preserved c = λ p f. follows-first p c.loop-turn.view c.next_action.new.self
    c.next_action.result c.next_action.ensures.taken (c.loop-turn.invariant p f)
