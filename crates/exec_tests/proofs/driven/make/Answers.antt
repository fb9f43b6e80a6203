use Rattle.proc_api.proofs.Follows.{follows-same}
use Rattle.exec_tests.proofs.driven.make.Goals as goal

pub returns-in-Ok-clause-follows : goal.returns-in-Ok-clause-follows
returns-in-Ok-clause-follows g c = λ is v f. follows-same _ _ v c.in-Ok.ensures.ok.same.view f
