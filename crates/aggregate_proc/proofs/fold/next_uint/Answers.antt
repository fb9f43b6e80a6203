use Rattle.aggregate_proc.proofs.Imports.{arith, common_steps, chosen, combined, wrapped, wrapped_sum}
use Rattle.aggregate_proc.proofs.fold.next_uint.Goals as goal

pub returns-in-Add : goal.returns-in-Add
unfolding combined wrapped wrapped_sum
returns-in-Add c = grind (arith, c.ranges.number.fits)

pub returns-in-Least : goal.returns-in-Least
unfolding combined chosen
returns-in-Least c = grind (arith, common_steps)

pub returns-in-Greatest : goal.returns-in-Greatest
unfolding combined chosen
returns-in-Greatest c = grind (arith, common_steps)
