use Rattle.expr_eval.proofs.Imports.{IfOk-weaker, None, Some, ap, arith_type, arith_value, number_of, plain_of, plain_value, sym, type_before, type_behind, type_of, type_of_number, value_of, ◌∙◌, ◌≡◌}
use Rattle.expr_eval.proofs.Onto.{same_maps}
use Rattle.expr_eval.proofs.Operands.{plain_before, plain_behind, plain_value_of}
use Rattle.expr_eval.proofs.expression.arith.Goals as goal

pub returns-in-Some-clause-kind : goal.returns-in-Some-clause-kind
returns-in-Some-clause-kind c =
    let e : plain_of c.args.left.now ≡ Some (number_of c.in-Some.n) =
    rw c.in-Some.is at c.plain_number.ensures in
    let held = (plain_before _ _ _ _ _ e c.requires.alike).1 in
    IfOk-weaker c.number_beside.result _ _ (λ made k. k
    ∙ sym (ap (λ s. arith_type c.args.op s (type_of c.args.right.now c.args.chunk.now.types))
    (type_of_number c.args.chunk.now.types c.args.left.now _ e) ∙ type_before c.args.op _ _ held))
    c.number_beside.ensures.kind

pub returns-in-Some-clause-values : goal.returns-in-Some-clause-values
returns-in-Some-clause-values c =
    let e : plain_of c.args.left.now ≡ Some (number_of c.in-Some.n) =
    rw c.in-Some.is at c.plain_number.ensures in
    IfOk-weaker c.number_beside.result _ _ (λ made v. v ∙ same_maps (λ row. arith_value c.args.op
    (plain_value
    (number_of c.in-Some.n)) (value_of c.args.right.now row)) (λ row. arith_value c.args.op
    (value_of c.args.left.now row) (value_of c.args.right.now row)) c.args.chunk.now.rows
    (λ row. ap (λ v. arith_value c.args.op v (value_of c.args.right.now row))
    (sym (plain_value_of c.args.left.now _ row e))))
    c.number_beside.ensures.values

pub returns-in-Some-plain_number-clause-kind :
    goal.returns-in-Some-plain_number-clause-kind
returns-in-Some-plain_number-clause-kind c =
    let e : plain_of c.args.right.now ≡ Some (number_of c.in-Some-plain_number.m) =
    rw c.in-Some-plain_number.is at c.plain_number-in-None.ensures in
    let none : plain_of c.args.left.now ≡ None = rw c.in-None.is at c.plain_number.ensures in
    let held = plain_behind _ _ _ _ _ none e c.requires.alike in
    IfOk-weaker c.number_beside-in-Some-plain_number.result _ _ (λ made k. k
    ∙ sym (ap (λ t. arith_type c.args.op (type_of c.args.left.now c.args.chunk.now.types) t)
    (type_of_number c.args.chunk.now.types c.args.right.now _ e) ∙ type_behind c.args.op _ _ held))
    c.number_beside-in-Some-plain_number.ensures.kind

pub returns-in-Some-plain_number-clause-values :
    goal.returns-in-Some-plain_number-clause-values
returns-in-Some-plain_number-clause-values c =
    let e : plain_of c.args.right.now ≡ Some (number_of c.in-Some-plain_number.m) =
    rw c.in-Some-plain_number.is at c.plain_number-in-None.ensures in
    IfOk-weaker c.number_beside-in-Some-plain_number.result _ _ (λ made v. v ∙ same_maps
    (λ row. arith_value c.args.op
    (value_of c.args.left.now row) (plain_value (number_of c.in-Some-plain_number.m)))
    (λ row. arith_value c.args.op (value_of c.args.left.now row)
    (value_of c.args.right.now row)) c.args.chunk.now.rows (λ row. ap (λ v. arith_value
    c.args.op (value_of c.args.left.now row) v) (sym (plain_value_of c.args.right.now _ row e))))
    c.number_beside-in-Some-plain_number.ensures.values
