use Rattle.expr_eval.proofs.Imports.{Int, arith_value, exact_result, int_wrap, refl, w64, ◌∙◌}
use Rattle.expr_eval.proofs.Onto.{under}
use Rattle.expr_eval.proofs.Applied.{int_pair_at}
use Rattle.expr_eval.proofs.expression.int_pairs.Goals as goal

pub returns-in-Ok-clause-values : goal.returns-in-Ok-clause-values
returns-in-Ok-clause-values c =
    c.of_ints.ensures.values ∙ under Int Int Int (arith_value c.args.op)
    (λ a b. int_wrap w64 (exact_result c.args.op a b)) c.args.xs.now c.args.ys.now
    c.in-Ok.ensures refl refl (λ a b. int_pair_at c.args.op a b)
