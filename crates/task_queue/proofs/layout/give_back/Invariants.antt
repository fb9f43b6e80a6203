use Rattle.task_queue.proofs.Imports.{length, reverse, values_of, vec_capacity, ◌++◌, ◌+◌, ◌≡◌, ◌≤◌}
use Rattle.task_queue.proofs.layout.give_back.Given as goal

abbrev pub invariant-loop-slot : goal.invariant-loop-slot
invariant-loop-slot g l = record {
  all : values_of l.slots.items ++ reverse l.values.items ≡ values_of l.fn.slots.items;
  room : length l.slots.items + length l.values.items ≤ vec_capacity l.values;
}

abbrev pub decreases-loop-slot : goal.decreases-loop-slot
decreases-loop-slot g l = length l.slots.items
