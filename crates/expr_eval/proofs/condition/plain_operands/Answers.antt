use Rattle.expr_eval.proofs.Imports.{IfOk-weaker, Some, ap, compares, number_of, plain_of, plain_value, sym, type_of_number, value_of, ◌∙◌, ◌≡◌, arith}
use Rattle.expr_eval.proofs.Onto.{same_maps}
use Rattle.expr_eval.proofs.Operands.{plain_value_of}
use Rattle.expr_eval.proofs.Comparisons.{plain_is_number}
use Rattle.expr_eval.proofs.condition.plain_operands.Goals as goal

pub plain_compared-requires-clause-not_text : goal.plain_compared-requires-clause-not_text
plain_compared-requires-clause-not_text c = grind (arith, type_of_number, plain_is_number)

pub number_compared-requires-clause-not_text : goal.number_compared-requires-clause-not_text
number_compared-requires-clause-not_text c = grind (arith, type_of_number, plain_is_number)

pub returns-in-Some : goal.returns-in-Some
returns-in-Some c =
    let e : plain_of c.args.left.now ≡ Some (number_of c.in-Some.n) =
    rw c.in-Some.is at c.plain_number.ensures in
    IfOk-weaker c.plain_compared.result _ _ (λ m h. h ∙ same_maps (λ row. compares c.args.op
    (plain_value (number_of c.in-Some.n)) (value_of c.args.right.now row)) (λ row.
    compares c.args.op (value_of c.args.left.now row) (value_of c.args.right.now row))
    c.args.chunk.now.rows (λ row. ap (λ v. compares c.args.op v
    (value_of c.args.right.now row)) (sym (plain_value_of c.args.left.now _ row e))))
    c.plain_compared.ensures

pub returns-in-Some-plain_number : goal.returns-in-Some-plain_number
returns-in-Some-plain_number c =
    let e : plain_of c.args.right.now ≡ Some (number_of c.in-Some-plain_number.k) =
    rw c.in-Some-plain_number.is at c.plain_number-in-None.ensures in
    IfOk-weaker c.number_compared.result _ _ (λ m h. h ∙ same_maps (λ row. compares c.args.op
    (value_of c.args.left.now row) (plain_value (number_of c.in-Some-plain_number.k))) (λ row.
    compares c.args.op (value_of c.args.left.now row) (value_of c.args.right.now row))
    c.args.chunk.now.rows (λ row. ap (λ v. compares c.args.op
    (value_of c.args.left.now row) v) (sym (plain_value_of c.args.right.now _ row e))))
    c.number_compared.ensures
