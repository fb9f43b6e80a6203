use Rattle.std.proofs.Common.{arith}
use denote.Enum.Bare.{same_true, true_same}
use Rattle.std.proofs.lemmas.Slice.Eq.{slice_eq-Decides}
use Rattle.sort_procs.proofs.fitting.are_types.Goals as goal

pub returns : goal.returns
returns c = grind (arith, slice_eq-Decides, same_true, true_same)
