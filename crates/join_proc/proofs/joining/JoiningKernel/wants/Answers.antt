use Rattle.join_proc.proofs.Imports.{arith}
use Rattle.join_proc.proofs.LeftLaws.{joined-empty}
use Rattle.join_proc.proofs.joining.JoiningKernel.wants.Goals as goal

pub returns-in-Joining : goal.returns-in-Joining
returns-in-Joining c = grind (arith, joined-empty)
