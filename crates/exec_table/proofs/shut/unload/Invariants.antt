use Rattle.exec_table.proofs.Imports.{Filled, false, get_or, slots_filled, slots_items, slots_len, take, vec_capacity, ℕ, ◌<◌, ◌≡◌}
use Rattle.exec_table.proofs.shut.unload.Given as goal

abbrev pub invariant-loop-i : goal.invariant-loop-i
invariant-loop-i l = record {
  moved : l.words.items ≡ take l.i (slots_items l.closed.words);
  room : vec_capacity l.words ≡ vec_capacity l.fn.words;
}

abbrev pub invariant-loop-i-2 : goal.invariant-loop-i-2
invariant-loop-i-2 l = record {
  words : l.words ≡ l.initial.words;
  moved : l.left.items ≡ take l.i (slots_items l.fn.closed.slots);
  room : vec_capacity l.left ≡ vec_capacity l.fn.left;
  items : slots_items l.closed.slots ≡ slots_items l.fn.closed.slots;
  count : slots_len l.closed.slots ≡ slots_len l.fn.closed.slots;
  filled : Filled (slots_filled l.closed.slots) l.i (slots_len l.closed.slots);
  gone : (k : ℕ) → k < l.i → get_or (slots_filled l.closed.slots) k false ≡ false;
}
