use Rattle.proc_shell.proofs.Imports.{ChangesInputs, unasked}
use Rattle.proc_shell.proofs.ports.ask_none.Given as goal

abbrev pub invariant-loop-i : goal.invariant-loop-i
invariant-loop-i l = ChangesInputs unasked l.i l.initial.view l.view
