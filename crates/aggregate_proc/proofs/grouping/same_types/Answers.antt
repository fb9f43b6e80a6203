use Rattle.aggregate_proc.proofs.Imports.{arith, same_true, slice_eq-Decides, true_same}
use Rattle.aggregate_proc.proofs.grouping.same_types.Goals as goal

pub returns : goal.returns
returns c = grind (arith, slice_eq-Decides, same_true, true_same)
