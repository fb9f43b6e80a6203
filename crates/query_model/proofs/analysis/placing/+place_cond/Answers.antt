use Rattle.query_model.proofs.Imports.{arith, cond_operands, flat_map-append}
use Rattle.query_model.proofs.CallLaws.{length_added, both_added}
use Rattle.query_model.proofs.analysis.placing.+place_cond.Goals as goal

pub returns-in_ok-right-in-And-clause-placed : goal.returns-in_ok-right-in-And-clause-placed
unfolding cond_operands
returns-in_ok-right-in-And-clause-placed t c = grind (arith, length_added)

pub returns-in_ok-right-in-And-clause-added : goal.returns-in_ok-right-in-And-clause-added
unfolding cond_operands
returns-in_ok-right-in-And-clause-added t c = grind (arith, both_added, flat_map-append)

pub returns-in_ok-right-in-Or-clause-placed : goal.returns-in_ok-right-in-Or-clause-placed
unfolding cond_operands
returns-in_ok-right-in-Or-clause-placed t c = grind (arith, length_added)

pub returns-in_ok-right-in-Or-clause-added : goal.returns-in_ok-right-in-Or-clause-added
unfolding cond_operands
returns-in_ok-right-in-Or-clause-added t c = grind (arith, both_added, flat_map-append)
