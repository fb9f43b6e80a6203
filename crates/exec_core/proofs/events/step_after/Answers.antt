use Rattle.exec_core.proofs.Imports.{arith}
use Rattle.exec_core.proofs.Bounds.{pending-small, token-pending}
use Rattle.exec_core.proofs.events.step_after.Goals as goal

pub overflow_add-pending : goal.overflow_add-pending
overflow_add-pending c = let a = pending-small c.args.core c.requires.laws in omega (arith, a)

pub overflow_sub-pending : goal.overflow_sub-pending
overflow_sub-pending c = let a = token-pending c.args.core c.args.event c.in-TokenOut.is
    c.requires.is_step c.requires.laws in omega (arith, a)
