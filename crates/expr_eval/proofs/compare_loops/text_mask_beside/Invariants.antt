use Rattle.expr_eval.proofs.Imports.{map, passes, take, text_cmp, ◌≡◌}
use Rattle.expr_eval.proofs.compare_loops.text_mask_beside.Given as goal

abbrev pub invariant-loop-i : goal.invariant-loop-i
invariant-loop-i l = l.mask.items ≡ map (λ x. passes l.op (text_cmp x l.y)) (take l.i l.xs)
