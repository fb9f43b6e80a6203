use Rattle.expr_eval.proofs.Imports.{[], arith, get_or, passes, rules, text_cmp, ◌++◌, ◌∷◌, ◌≡◌}
use Rattle.expr_eval.proofs.Onto.{mask_more}
use Rattle.expr_eval.proofs.compare_loops.text_mask.Goals as goal

pub loop-i-preserved : goal.loop-i-preserved
loop-i-preserved c =
    let p : c.push.new.self.items ≡ c.loop-i.mask.items ++ c.text_passes.result ∷ [] =
    search rules in
    let q : c.text_passes.result ≡ passes c.args.op
    (text_cmp (get_or c.args.xs.now c.loop-i.i []) (get_or c.args.ys.now c.loop-i.i [])) =
    rw (c.get.ensures, c.get-in-loop-i.ensures) at c.text_passes.ensures in
    mask_more (λ p. passes c.args.op (text_cmp p.0 p.1)) c.loop-i.i c.args.xs.now c.args.ys.now []
    [] c.loop-i.invariant (omega arith) (omega arith) q p
