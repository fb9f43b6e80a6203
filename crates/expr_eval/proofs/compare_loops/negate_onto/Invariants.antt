use Rattle.expr_eval.proofs.Imports.{not, ◌≡◌}
use Rattle.expr_eval.proofs.Onto.{onto}
use Rattle.expr_eval.proofs.compare_loops.negate_onto.Given as goal

abbrev pub invariant-loop-i : goal.invariant-loop-i
invariant-loop-i l = l.mask ≡ onto (λ p. not p.0) l.i l.initial.mask l.initial.mask
