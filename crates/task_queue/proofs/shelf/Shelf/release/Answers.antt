use Rattle.task_queue.proofs.Imports.{Allows, IsKept, Returns, arith, none, rest, step, subst, sym, ◌+◌}
use Rattle.task_queue.proofs.ShelfRule.{return-allowed}
use Rattle.task_queue.proofs.shelf.Shelf.release.Goals as goal

pub swap-requires : goal.swap-requires
swap-requires g c = let z = c.args.self.now.sized in let i = c.requires.place in
    let slots = c.args.self.now.table.shared.table_id.slots in
    let seat = c.args.seat.now in let lies = c.requires.lies in (
      c.requires.seat,
      omega arith,
      subst (λ l. Allows (IsKept g.V.Placed.fits) slots seat.id (seat.me.0, l) (c.args.n + 1)
          (λ _. 1)
          (Returns (step slots (c.args.n + 1) 1 0 none) (seat.me.0, l))) (sym lies.first)
          (return-allowed slots seat.id c.args.n seat.me.0 lies.value (rest seat.me.1)
          c.requires.place lies.fitting),
    )
