use Rattle.proc_shell.proofs.Imports.{ap, closed, cond, input_at, is_in_finished, rules, shut_open, true, ◌≡◌}
use Rattle.proc_shell.proofs.PortSteps.{step-closes, step-none}
use Rattle.proc_shell.proofs.ports.close_open.Goals as goal

pub returns-then-not-in_finished : goal.returns-then-not-in_finished
returns-then-not-in_finished c =
    step-closes c.args.i c.args.view.now c.close.new.self c.requires c.close.ensures (search rules)

pub returns-else-not-in_finished : goal.returns-else-not-in_finished
returns-else-not-in_finished c = let x = input_at c.args.view.now c.args.i in
    let shut : is_in_finished x.flags ≡ true = search rules in
    step-none shut_open c.args.i c.args.view.now (ap (λ b. cond b x (closed x)) shut)
