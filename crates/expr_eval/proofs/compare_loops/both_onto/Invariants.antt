use Rattle.expr_eval.proofs.Imports.{◌&&◌, ◌≡◌}
use Rattle.expr_eval.proofs.Onto.{onto}
use Rattle.expr_eval.proofs.compare_loops.both_onto.Given as goal

abbrev pub invariant-loop-i : goal.invariant-loop-i
invariant-loop-i l = l.mask ≡ onto (λ p. p.0 && p.1) l.i l.initial.mask l.other
