use Rattle.expr_eval.proofs.Imports.{All, IsItem, take}
use Rattle.expr_eval.proofs.items.are_items.Given as goal

abbrev pub invariant-loop-expr : goal.invariant-loop-expr
invariant-loop-expr l = All (IsItem l.types) (take l.expr-index l.exprs)
