use Rattle.task_queue.proofs.SlotValues.{room-kept}
use Rattle.task_queue.proofs.layout.keep_room.Goals as goal

pub new-requires : goal.new-requires
new-requires g c = room-kept c.args.count _ _ c.args.values c.push_reserved.ensures.items
    c.in-Ok.ensures.items c.requires.0 c.requires.1
