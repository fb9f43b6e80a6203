use Rattle.expr_eval.proofs.Imports.{arith, to_z-of_z, ◌∙◌}
use Rattle.expr_eval.proofs.Onto.{onto_more, onto_all}
use Rattle.expr_eval.proofs.arith_loops.each_int_pair_onto.Goals as goal

pub loop-i-preserved : goal.loop-i-preserved
loop-i-preserved c = search (arith, to_z-of_z, onto_more)

pub returns : goal.returns
returns c = c.loop-i.invariant ∙ onto_all _ c.loop-i.i _ _ (omega arith) c.requires
