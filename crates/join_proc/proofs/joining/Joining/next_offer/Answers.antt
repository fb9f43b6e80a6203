use Rattle.join_proc.proofs.Imports.{arith, leb-false}
use Rattle.join_proc.proofs.LeftLaws.{some-left}
use Rattle.join_proc.proofs.joining.Joining.next_offer.Goals as goal

pub returns-else-is_joined : goal.returns-else-is_joined
returns-else-is_joined c = grind (arith, some-left, leb-false)
