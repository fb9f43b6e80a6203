use Rattle.task_queue.proofs.Imports.{arith}
use Rattle.task_queue.proofs.ShelfRule.{claim-allowed}
use Rattle.task_queue.proofs.shelf.Shelf.try_claim.Goals as goal

pub compare_exchange-requires : goal.compare_exchange-requires
compare_exchange-requires g c = let z = c.args.self.now.sized in let i = c.requires.place in
    (c.requires.seat, omega arith, claim-allowed _ _ _ _ c.requires.place c.requires.share)
