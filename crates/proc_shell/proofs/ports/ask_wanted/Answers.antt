use Rattle.proc_shell.proofs.Imports.{ap, asked, cond, input_at, needing, sym, true, ◌∙◌}
use Rattle.proc_shell.proofs.PortSteps.{step-needs, step-none}
use Rattle.proc_shell.proofs.ports.ask_wanted.Goals as goal

pub returns-then-wants : goal.returns-then-wants
returns-then-wants g c =
    step-needs (asked (g.K.Kernel.open_to c.args.kernel.now)) true c.args.i c.args.view.now
    c.set_needed.new.self c.requires c.set_needed.ensures
    (ap (λ b. cond b (needing (input_at c.args.view.now c.args.i) true)
    (input_at c.args.view.now c.args.i)) (sym c.wants.ensures ∙ c.if-wants.true))

pub returns-else-wants : goal.returns-else-wants
returns-else-wants g c = let x = input_at c.args.view.now c.args.i in
    step-none (asked (g.K.Kernel.open_to c.args.kernel.now)) c.args.i c.args.view.now
    (ap (λ b. cond b (needing x true) x) (sym c.wants.ensures ∙ c.if-wants.false))
