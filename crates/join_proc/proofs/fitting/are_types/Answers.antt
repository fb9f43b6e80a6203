use Rattle.join_proc.proofs.Imports.{arith, same_true, slice_eq-Decides, true_same}
use Rattle.join_proc.proofs.fitting.are_types.Goals as goal

pub returns : goal.returns
returns c = grind (arith, slice_eq-Decides, same_true, true_same)
