use Rattle.sort_procs.specs.Heads.{IsFirstBut}
use Rattle.sort_procs.proofs.heads.first_but.Given as goal

abbrev pub invariant-loop-i : goal.invariant-loop-i
invariant-loop-i l = IsFirstBut l.order.keys l.heads l.but l.i l.first
