use Rattle.exec_table.proofs.Imports.{IsInHand, deque_capacity, drop, false, has, slot_of, take, ℕ, ◌++◌, ◌≡◌}
use Rattle.exec_table.proofs.rule.NodeSeat.bring_to_front.Given as goal

abbrev pub invariant-loop-i : goal.invariant-loop-i
invariant-loop-i l = record {
  hand : IsInHand l.self;
  table : l.self.seat.table_id ≡ l.initial.self.seat.table_id;
  view : l.self.seat.me.0 ≡ l.initial.self.seat.me.0;
  node : l.self.node ≡ l.initial.self.node;
  room : deque_capacity l.self.held ≡ deque_capacity l.initial.self.held;
  slots : (d : ℕ) → slot_of l.self d ≡ slot_of l.initial.self d;
  rotated : l.self.held.items ≡ drop l._i l.initial.self.held.items
      ++ take l._i l.initial.self.held.items;
  none : has l.e (take l._i l.initial.self.held.items) ≡ false;
}
