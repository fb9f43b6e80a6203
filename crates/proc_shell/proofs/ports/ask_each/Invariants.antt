use Rattle.proc_shell.proofs.Imports.{ChangesInputs, asked}
use Rattle.proc_shell.proofs.ports.ask_each.Given as goal

abbrev pub invariant-loop-i : goal.invariant-loop-i
invariant-loop-i g l = ChangesInputs (asked (g.K.Kernel.open_to l.kernel)) l.i l.initial.view l.view
