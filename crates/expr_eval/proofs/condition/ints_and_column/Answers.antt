use Rattle.expr_eval.proofs.Imports.{IfOk-weaker, Int, UInt, compared, int_cmp, passes, pos, refl}
use Rattle.expr_eval.proofs.Applied.{masked_pairs}
use Rattle.expr_eval.proofs.condition.ints_and_column.Goals as goal

pub returns-in-Ints : goal.returns-in-Ints
returns-in-Ints c = rw c.in-Ints.is (IfOk-weaker c.int_mask.result _ _ (λ m e.
    masked_pairs Int Int (λ a b. passes c.args.op (compared a b))
    (λ a b. passes c.args.op (int_cmp a b)) c.args.xs.now c.in-Ints.ys.now
    e refl refl (λ a b. refl)) c.int_mask.ensures)

pub returns-in-UInts : goal.returns-in-UInts
returns-in-UInts c = rw c.in-UInts.is (IfOk-weaker c.int_uint_mask.result _ _ (λ m e.
    masked_pairs Int UInt (λ a b. passes c.args.op (compared a b))
    (λ a b. passes c.args.op (int_cmp a (pos b))) c.args.xs.now c.in-UInts.ys.now
    e refl refl (λ a b. refl)) c.int_uint_mask.ensures)
