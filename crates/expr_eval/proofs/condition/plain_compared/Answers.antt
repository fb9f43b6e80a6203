use Rattle.expr_eval.proofs.Imports.{IfOk-weaker, Some, ap, arith, compares, int_cmp, number_of, passes, plain_of, plain_value, sym, value_of, ◌∙◌, ◌≡◌}
use Rattle.expr_eval.proofs.Onto.{same_maps, same_value}
use Rattle.expr_eval.proofs.Operands.{plain_value_of}
use Rattle.expr_eval.proofs.Comparisons.{flipped_compares, plains_compare}
use Rattle.expr_eval.proofs.condition.plain_compared.Goals as goal

pub returns-in-None : goal.returns-in-None
returns-in-None c = search (arith, same_maps, compares, flipped_compares)

pub returns-in-Some : goal.returns-in-Some
returns-in-Some c =
    let e : plain_of c.args.right.now ≡ Some (number_of c.in-Some.k) =
    rw c.in-Some.is at c.plain_number.ensures in
    IfOk-weaker c.filled.result _ _ (λ m h. h ∙ same_value (passes c.args.op (int_cmp
    (number_of c.args.n) (number_of c.in-Some.k)))
    c.args.chunk.now.rows
    ∙ same_maps (λ row. passes c.args.op (int_cmp (number_of c.args.n) (number_of c.in-Some.k)))
    (λ row. compares c.args.op (plain_value (number_of c.args.n))
    (value_of c.args.right.now row)) c.args.chunk.now.rows
    (λ row. sym (ap (λ v. compares c.args.op (plain_value (number_of c.args.n)) v)
    (plain_value_of c.args.right.now _ row e)
    ∙ plains_compare c.args.op (number_of c.args.n) (number_of c.in-Some.k))))
    (rw (c.rows.ensures.count, c.numbers_pass.ensures) at c.filled.ensures)
