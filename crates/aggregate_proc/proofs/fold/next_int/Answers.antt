use Rattle.aggregate_proc.proofs.Imports.{arith, to_z-of_z}
use Rattle.aggregate_proc.proofs.NextLaws.{added-int, greatest-int, least-int}
use Rattle.aggregate_proc.proofs.fold.next_int.Goals as goal

pub returns-in-Add : goal.returns-in-Add
returns-in-Add c = grind (arith, added-int)

pub returns-in-Least : goal.returns-in-Least
returns-in-Least c = grind (arith, least-int, to_z-of_z)

pub returns-in-Greatest : goal.returns-in-Greatest
returns-in-Greatest c = grind (arith, greatest-int, to_z-of_z)
