use Rattle.expr_eval.proofs.Imports.{Int, arith_value, exact_result, int_wrap, refl, w64, ◌∙◌}
use Rattle.expr_eval.proofs.Onto.{under}
use Rattle.expr_eval.proofs.Applied.{int_pair_at}
use Rattle.expr_eval.proofs.expression.pairs_onto.Goals as goal

pub returns-in-Int64-Int64-clause-values : goal.returns-in-Int64-Int64-clause-values
returns-in-Int64-Int64-clause-values c =
    rw c.into_ints.ensures
    (c.of_ints.ensures.values ∙ under Int Int Int (arith_value c.args.op)
    (λ a b. int_wrap w64 (exact_result c.args.op a b)) c.into_ints.result.items c.ints.result.now
    c.int_results_onto-results.ensures refl c.ints.ensures (λ a b. int_pair_at c.args.op a b))
