use Rattle.expr_eval.proofs.Imports.{IfOk-weaker, Int, UInt, compared, flipped, int_cmp, passes, pos, refl, ◌∙◌}
use Rattle.expr_eval.proofs.Onto.{zip_turned}
use Rattle.expr_eval.proofs.Applied.{masked_pairs}
use Rattle.expr_eval.proofs.Comparisons.{flipped_passes}
use Rattle.expr_eval.proofs.condition.uints_and_column.Goals as goal

pub returns-in-Ints : goal.returns-in-Ints
returns-in-Ints c = rw c.in-Ints.is (IfOk-weaker c.int_uint_mask.result _ _ (λ m e.
    masked_pairs UInt Int (λ a b. passes c.args.op (compared a b))
    (λ a b. passes c.args.op (int_cmp (pos a) b)) c.args.xs.now c.in-Ints.ys.now
    (e ∙ zip_turned (λ p. passes (flipped c.args.op) (int_cmp p.0 (pos p.1)))
    (λ p. passes c.args.op (int_cmp (pos p.0) p.1)) c.args.xs.now c.in-Ints.ys.now
    (λ x y. flipped_passes c.args.op (UInt x) (Int y))) refl refl (λ a b. refl))
    (rw c.flip.ensures at c.int_uint_mask.ensures))

pub returns-in-UInts : goal.returns-in-UInts
returns-in-UInts c = rw c.in-UInts.is (IfOk-weaker c.uint_mask.result _ _ (λ m e.
    masked_pairs UInt UInt (λ a b. passes c.args.op (compared a b))
    (λ a b. passes c.args.op (int_cmp (pos a) (pos b))) c.args.xs.now c.in-UInts.ys.now
    e refl refl (λ a b. refl)) c.uint_mask.ensures)
