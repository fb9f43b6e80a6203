use Rattle.plan_run.proofs.Taking.{pushed-first, left-first}
use Rattle.plan_run.proofs.boxes.take_next.Goals as goal

pub returns-clause-taken : goal.returns-clause-taken
returns-clause-taken g c = pushed-first _ c.args.kind _ _ c.args.boxes.now.items
    c.push_reserved.new.self.items c.in-Some.b c.push_reserved.ensures.items c.in-Some.ensures.taken

pub returns-clause-left : goal.returns-clause-left
returns-clause-left g c = left-first _ c.args.kind _ c.take.new.self.boxes.items c.in-Some.b
    c.in-Some.ensures.taken
