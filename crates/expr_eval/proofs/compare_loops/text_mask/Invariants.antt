use Rattle.expr_eval.proofs.Imports.{map, passes, take, text_cmp, zip, ◌≡◌}
use Rattle.expr_eval.proofs.compare_loops.text_mask.Given as goal

abbrev pub invariant-loop-i : goal.invariant-loop-i
invariant-loop-i l =
    l.mask.items ≡ map (λ p. passes l.op (text_cmp p.0 p.1)) (zip (take l.i l.xs) (take l.i l.ys))
