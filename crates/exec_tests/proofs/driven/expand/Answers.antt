use Rattle.std.proofs.Common.{Result, Ok, Err, OnOk}
use Rattle.std.specs.Prelude.{IfOk}
use Rattle.port_word.specs.Pictures.{Picture}
use Rattle.proc_api.specs.Names.{BoxPicture, Expands, FollowsKept}
use Rattle.proc_api.specs.declared.growth.Growth.{Growth}
use Rattle.proc_api.specs.declared.status.WorkFault.{WorkFault}
use Rattle.proc_api.proofs.Follows.{follows-same}
use Rattle.exec_tests.proofs.driven.expand.Goals as goal

same-view : (p q : BoxPicture) (r : Result Growth WorkFault) → IfOk r (λ g. Expands g p q)
    → OnOk r ((v : Picture) → FollowsKept p v → FollowsKept q v)
same-view p q (Ok g) e = λ v f. follows-same p q v e.view f
same-view p q (Err e) _ = tt

pub returns-clause-follows : goal.returns-clause-follows
returns-clause-follows g c = same-view _ _ c.expand.result c.expand.ensures.ok
