use Rattle.task_queue.proofs.Imports.{drop, held, take, times, ◌++◌, ◌≡◌}
use Rattle.task_queue.proofs.seat.ShelfSeat.bring_to_front.Given as goal

abbrev pub invariant-loop-i : goal.invariant-loop-i
invariant-loop-i g l = record {
  seat : l.self.seat.table_id ≡ l.initial.self.seat.table_id;
  view : l.self.seat.me.0 ≡ l.initial.self.seat.me.0;
  rotated : held l.self ≡ drop l._i (held l.initial.self) ++ take l._i (held l.initial.self);
  none : times l.n (take l._i (held l.initial.self)) ≡ 0;
}
