use Rattle.expr_eval.proofs.Imports.{arith, ◌∙◌}
use Rattle.expr_eval.proofs.Onto.{onto_more, onto_all}
use Rattle.expr_eval.proofs.compare_loops.both_onto.Goals as goal

pub loop-i-preserved : goal.loop-i-preserved
loop-i-preserved c = search (arith, onto_more)

pub returns : goal.returns
returns c = c.loop-i.invariant ∙ onto_all _ c.loop-i.i _ _ (omega arith) c.requires
