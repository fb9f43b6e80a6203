use Rattle.task_queue.proofs.Imports.{Some, length, map, reverse, vec_capacity, ◌++◌, ◌+◌, ◌≡◌, ◌≤◌}
use Rattle.task_queue.proofs.layout.lay_out.Given as goal

abbrev pub invariant-loop-value : goal.invariant-loop-value
invariant-loop-value g l = record {
  all : l.slots.items ++ map (λ v. Some v) (reverse l.values.items)
      ≡ map (λ v. Some v) l.fn.values.items;
  room : length l.slots.items + length l.values.items ≤ vec_capacity l.slots;
  same : vec_capacity l.values ≡ vec_capacity l.fn.values;
}

abbrev pub decreases-loop-value : goal.decreases-loop-value
decreases-loop-value g l = length l.values.items
