use Rattle.task_queue.proofs.Imports.{AllFit, Filled, false, get_or, length, slots_filled, slots_items, slots_len, vec_capacity, ℕ, ◌<◌, ◌≡◌}
use Rattle.task_queue.proofs.layout.unload.Given as goal

abbrev pub invariant-loop-i : goal.invariant-loop-i
invariant-loop-i g l = record {
  filled : Filled (slots_filled l.closed.slots) l.i (slots_len l.closed.slots);
  gone : (k : ℕ) → k < l.i → get_or (slots_filled l.closed.slots) k false ≡ false;
  items : slots_items l.closed.slots ≡ slots_items l.fn.closed.slots;
  count : slots_len l.closed.slots ≡ slots_len l.fn.closed.slots;
  many : length l.room.items ≡ l.i;
  room : vec_capacity l.room ≡ vec_capacity l.fn.room;
  fit : AllFit g.V.Placed.fits l.room.items;
}
