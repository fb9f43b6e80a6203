use Rattle.proc_shell.proofs.Imports.{ChangesInputs, shut_open}
use Rattle.proc_shell.proofs.ports.close_each.Given as goal

abbrev pub invariant-loop-i : goal.invariant-loop-i
invariant-loop-i l = ChangesInputs shut_open l.i l.initial.view l.view
