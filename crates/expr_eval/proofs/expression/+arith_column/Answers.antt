use Rattle.expr_eval.proofs.Imports.{type_of, value_of}
use Rattle.expr_eval.proofs.expression.+arith_column.Goals as goal

pub returns-in_ok-column-in-Arith : goal.returns-in_ok-column-in-Arith
unfolding value_of type_of
returns-in_ok-column-in-Arith t c =
    let k = rw (c.deref-in-Arith-2.ensures, c.deref-in-Arith-3.ensures) at
    c.in_ok-column-in-Arith.ensures.kind in
    let v = rw (c.deref-in-Arith-2.ensures, c.deref-in-Arith-3.ensures) at
    c.in_ok-column-in-Arith.ensures.values in
    rw c.in-Arith.is (k, v)
