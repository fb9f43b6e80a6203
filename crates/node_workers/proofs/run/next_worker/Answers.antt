use Rattle.node_workers.proofs.SentNotes.{named_sent}
use Rattle.node_workers.proofs.run.next_worker.Goals as goal

pub seat_with_room-requires-send-V : goal.seat_with_room-requires-send-V
seat_with_room-requires-send-V g c κs lives =
    named_sent _ _ c.type_bounds.send-P c.type_bounds.send-J _
