use Rattle.expr_eval.proofs.Imports.{IfOk-weaker, Int, UInt, ap, compared, int_cmp, number_of, passes, plain_value, pos, refl}
use Rattle.expr_eval.proofs.Applied.{masked_one}
use Rattle.expr_eval.proofs.Comparisons.{int_compared, uint_compared}
use Rattle.expr_eval.proofs.condition.numbers_beside.Goals as goal

pub returns-in-Ints : goal.returns-in-Ints
returns-in-Ints c = rw c.in-Ints.is (IfOk-weaker c.ints_beside.result _ _ (λ m e.
    masked_one Int (λ v. passes c.args.op (compared v (plain_value (number_of c.args.n))))
    (λ x. passes c.args.op (int_cmp x (number_of c.args.n))) c.in-Ints.xs.now e refl
    (λ x. ap (passes c.args.op) (int_compared x (number_of c.args.n)))) c.ints_beside.ensures)

pub returns-in-UInts : goal.returns-in-UInts
returns-in-UInts c = rw c.in-UInts.is (IfOk-weaker c.uints_beside.result _ _ (λ m e.
    masked_one UInt (λ v. passes c.args.op (compared v (plain_value (number_of c.args.n))))
    (λ x. passes c.args.op (int_cmp (pos x) (number_of c.args.n))) c.in-UInts.xs.now e refl
    (λ x. ap (passes c.args.op) (uint_compared x (number_of c.args.n)))) c.uints_beside.ensures)
