use Rattle.expr_eval.proofs.Imports.{exact_result, int_wrap, w64, ◌≡◌}
use Rattle.expr_eval.proofs.Onto.{onto}
use Rattle.expr_eval.proofs.arith_loops.each_int_pair_onto.Given as goal

abbrev pub invariant-loop-i : goal.invariant-loop-i
invariant-loop-i l =
    l.xs ≡ onto (λ p. int_wrap w64 (exact_result l.op p.0 p.1)) l.i l.initial.xs l.ys
