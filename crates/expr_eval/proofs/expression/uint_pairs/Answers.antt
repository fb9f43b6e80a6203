use Rattle.expr_eval.proofs.Imports.{Int, UInt, arith_value, exact_result, int_wrap, pos, refl, residue, sym, w64, ◌-ℤ◌, ◌∙◌}
use Rattle.expr_eval.proofs.Onto.{under}
use Rattle.expr_eval.proofs.Applied.{uint_pair_at, uint_difference_at, uint_type}
use Rattle.expr_eval.proofs.expression.uint_pairs.Goals as goal

pub returns-in-Ok-clause-values : goal.returns-in-Ok-clause-values
returns-in-Ok-clause-values c =
    c.of_ints.ensures.values ∙ under UInt UInt Int (arith_value c.args.op)
    (λ a b. int_wrap w64 (pos a -ℤ pos b)) c.args.xs.now c.args.ys.now c.in-Ok.ensures refl refl
    (λ a b. uint_difference_at c.args.op a b c.in-Sub.is)

pub returns-in-Ok-uint_results : goal.returns-in-Ok-uint_results
returns-in-Ok-uint_results c = record {
  kind = c.of_uints.ensures.kind ∙ sym (uint_type c.args.op c.in_default.not-Sub);
  values = c.of_uints.ensures.values ∙ under UInt UInt UInt (arith_value c.args.op)
      (λ a b. residue (exact_result c.args.op (pos a) (pos b))) c.args.xs.now c.args.ys.now
      c.in-Ok-uint_results.ensures refl refl
      (λ a b. uint_pair_at c.args.op a b c.in_default.not-Sub);
}
