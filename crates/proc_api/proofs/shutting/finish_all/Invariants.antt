use Rattle.proc_api.proofs.Imports.{FinishesFront}
use Rattle.proc_api.proofs.shutting.finish_all.Given as goal

abbrev pub invariant-loop-o : goal.invariant-loop-o
invariant-loop-o l = FinishesFront l.o l.initial.view l.view
