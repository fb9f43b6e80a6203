use Rattle.node_workers.proofs.Imports.{All-pop, All-push, IsIdleSeatOf, IsWorkerOver, Some, WorkerHasEnded, [], ap, arith, identity_of, length, length-append, parts, parts_of, total-push, ◌∷◌}
use Rattle.node_workers.proofs.run.part_workers.Goals as goal

pub loop-worker-preserved : goal.loop-worker-preserved
loop-worker-preserved g c = let inv = c.loop-worker.invariant in let w = c.in-Some.worker in
    let left = c.pop.new.self.items in let seats = c.loop-worker.seats.items in
    let shelf_seats = c.loop-worker.shelf_seats.items in let popped = c.in-Some.ensures.items in
    let put = c.push_reserved.ensures.items in let laid = c.push_reserved-in-Some.ensures.items in
    let all = All-pop (IsWorkerOver c.args._shared.now) c.loop-worker.workers.items left (Some w)
    popped inv.left in let at : IsWorkerOver c.args._shared.now w = all.1 in
    let a = ap length popped in let b = length-append left (w ∷ []) in let d = ap length put in
    let e = length-append seats (w.seat ∷ []) in let f = ap length laid in
    let h = length-append shelf_seats (w.shelf ∷ []) in record {
      left = all.0;
      seats = rw put (All-push (WorkerHasEnded (identity_of c.args._shared.now.table)) seats w.seat
          inv.seats record { seat = at.at.seat; saw = at.saw });
      many = let k = inv.many in omega arith;
      idle = rw laid (All-push (IsIdleSeatOf c.args._shared.now.shelf) shelf_seats w.shelf inv.idle
          at.at.shelf);
      whole = grind (arith, total-push parts_of left w, total-push parts shelf_seats w.shelf);
      seats_room = let k = inv.seats_room in let cap = c.push_reserved.ensures.capacity in
          omega arith;
      shelf_room = let k = inv.shelf_room in
          let cap = c.push_reserved-in-Some.ensures.capacity in omega arith;
    }
