use Rattle.proc_shell.proofs.Imports.{arith, refl, sym}
use Rattle.proc_shell.proofs.PushLaws.{passes-on, pushes-one}
use Rattle.proc_shell.proofs.turns.pass_on.Goals as goal

pub returns-then-rows-gt0 : goal.returns-then-rows-gt0
returns-then-rows-gt0 c = search (arith, passes-on, pushes-one)

pub returns-else-rows-gt0 : goal.returns-else-rows-gt0
returns-else-rows-gt0 c =
    passes-on _ _ _ _ _ _ c.requires (sym c.in-Unworked.ensures.value) c.replace.ensures.after
    (λ some. absurd (omega (arith, c.rows.ensures.count, c.if-rows-gt0.false, some))) (λ e. refl)
