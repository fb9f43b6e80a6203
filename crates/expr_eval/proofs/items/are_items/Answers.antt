use Rattle.expr_eval.proofs.Imports.{All-more, IsItem, arith, subst, take_all}
use Rattle.expr_eval.proofs.items.are_items.Goals as goal

pub loop-expr-preserved : goal.loop-expr-preserved
loop-expr-preserved c =
    All-more (IsItem c.args.types.now) c.args.exprs.now c.loop-expr.expr-index c.expr-item.result
    c.loop-expr-test.true c.loop-expr.invariant
    (subst (IsItem c.args.types.now) c.expr-item.is (c.is_item.ensures.0 c.if-not-is_item.false))

pub returns : goal.returns
returns c = grind (arith, take_all)
