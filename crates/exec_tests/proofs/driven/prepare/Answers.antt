use Rattle.proc_api.proofs.Follows.{follows-noted}
use Rattle.exec_tests.proofs.driven.prepare.Goals as goal

pub returns-clause-follows : goal.returns-clause-follows
returns-clause-follows g c = follows-noted _ c.prepare.new.view c.prepare.ensures.notes.view
