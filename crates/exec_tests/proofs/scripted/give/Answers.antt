use Rattle.port_word.specs.Differences.{push_call, finish_call}
use Rattle.port_word.proofs.Differences.{changed-by-one}
use Rattle.exec_tests.proofs.scripted.give.Goals as goal

pub returns-in-Some : goal.returns-in-Some
returns-in-Some c = changed-by-one c.args.view.now c.push.new.self (push_call 0 c.in-Some.chunk)
    c.push.ensures.after

pub returns-in-None : goal.returns-in-None
returns-in-None c = changed-by-one c.args.view.now c.finish.new.self (finish_call 0)
    c.finish.ensures
