use Rattle.proc_api.proofs.Imports.{ClosesFront}
use Rattle.proc_api.proofs.shutting.shut_down.Given as goal

abbrev pub invariant-loop-i : goal.invariant-loop-i
invariant-loop-i l = ClosesFront l.i l.initial.view l.view
