use Rattle.std.proofs.Common.{◌<◌, true, subst, sym}
use Rattle.port_word.specs.Differences.{pull_call, need_call}
use Rattle.port_word.proofs.Differences.{changed-by-one, changed-by-both}
use Rattle.exec_laws.proofs.Ports.{changed-inputs}
use Rattle.exec_tests.proofs.scripted.pull_and_want.Goals as goal

pub set_needed-requires : goal.set_needed-requires
set_needed-requires c = subst (λ n. 0 < n)
    (sym (changed-inputs c.args.view.now c.pull-found.new.self
    (changed-by-one c.args.view.now c.pull-found.new.self (pull_call 0)
    c.pull-found.ensures.after))) c.requires

pub returns-clause-changed : goal.returns-clause-changed
returns-clause-changed c = changed-by-both c.args.view.now c.pull-found.new.self
    c.set_needed.new.self (changed-by-one c.args.view.now c.pull-found.new.self (pull_call 0)
    c.pull-found.ensures.after) (changed-by-one c.pull-found.new.self c.set_needed.new.self
    (need_call 0 true) c.set_needed.ensures)

pub returns-clause-inputs : goal.returns-clause-inputs
returns-clause-inputs c = changed-inputs c.args.view.now c.set_needed.new.self
    (changed-by-both c.args.view.now c.pull-found.new.self c.set_needed.new.self
    (changed-by-one c.args.view.now c.pull-found.new.self (pull_call 0) c.pull-found.ensures.after)
    (changed-by-one c.pull-found.new.self c.set_needed.new.self (need_call 0 true)
    c.set_needed.ensures))
