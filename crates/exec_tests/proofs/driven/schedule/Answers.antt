use Rattle.std.proofs.Common.{Result, Ok, Err, OnOk}
use Rattle.std.specs.Prelude.{IfOk}
use Rattle.port_word.specs.Pictures.{Picture}
use Rattle.proc_api.specs.Names.{BoxPicture, FollowsKept, Schedules}
use Rattle.proc_api.specs.declared.status.Wake.{Wake}
use Rattle.proc_api.specs.declared.status.WorkFault.{WorkFault}
use Rattle.proc_api.proofs.Follows.{follows-same}
use Rattle.exec_tests.proofs.driven.schedule.Goals as goal

same-view : (p q : BoxPicture) (r : Result Wake WorkFault) → IfOk r (λ a. Schedules a p q)
    → OnOk r ((v : Picture) → FollowsKept p v → FollowsKept q v)
same-view p q (Ok a) s = λ v f. follows-same p q v s.view f
same-view p q (Err e) s = tt

pub returns-clause-follows : goal.returns-clause-follows
returns-clause-follows g c = same-view _ _ c.schedule.result c.schedule.ensures.ok
