use Rattle.aggregate_proc.proofs.Imports.{arith, chosen, combined}
use Rattle.aggregate_proc.proofs.fold.replaces.Goals as goal

pub returns-in-Least : goal.returns-in-Least
unfolding combined chosen
returns-in-Least c = grind arith

pub returns-in-Greatest : goal.returns-in-Greatest
unfolding combined chosen
returns-in-Greatest c = grind arith
