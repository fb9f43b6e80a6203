use Rattle.task_queue.proofs.Imports.{arith}
use Rattle.task_queue.proofs.ShelfRule.{share-allowed}
use Rattle.task_queue.proofs.shelf.Shelf.seat_with_room.Goals as goal

pub split_seat-seat-requires : goal.split_seat-seat-requires
split_seat-seat-requires g c =
    let z = c.args.self.now.sized in
    (c.requires.seat, omega arith, share-allowed _ _ c.requires.spare)
