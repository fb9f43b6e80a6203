use Rattle.proc_api.specs.Names.{BoxPicture, FollowsKept}
use Rattle.exec_tests.proofs.driven.take_actions.Given as goal

abbrev pub invariant-loop-turn : goal.invariant-loop-turn
invariant-loop-turn l = (p : BoxPicture) → FollowsKept p l.initial.view → FollowsKept p l.view
