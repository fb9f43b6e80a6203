use Rattle.plan_run.proofs.Imports.{kinds_taken, left_after, length, map, take, taken_for, vec_capacity, ◌+◌, ◌≡◌, ◌≤◌}
use Rattle.plan_run.proofs.boxes.take_boxes.Given as goal

abbrev pub invariant-loop-i : goal.invariant-loop-i
invariant-loop-i g l =
    record {
      taken : map (λ b. (goal.Processor-dyn g (b.vtable, b.value)).seen b.value) l.boxes.items
          ≡ taken_for (take l.i (kinds_taken l.specs.items l.kept))
          (map (λ b. (goal.Processor-dyn g (b.vtable, b.value)).seen b.value)
          l.initial.rack.boxes.items);
      left : map (λ b. (goal.Processor-dyn g (b.vtable, b.value)).seen b.value) l.rack.boxes.items
          ≡ left_after (take l.i (kinds_taken l.specs.items l.kept))
          (map (λ b. (goal.Processor-dyn g (b.vtable, b.value)).seen b.value)
          l.initial.rack.boxes.items);
      count : length l.boxes.items ≡ l.i;
      rest : length l.rack.boxes.items + l.i ≡ length l.initial.rack.boxes.items;
      room : vec_capacity l.initial.boxes ≤ vec_capacity l.boxes;
      rack_room : vec_capacity l.initial.rack.boxes ≤ vec_capacity l.rack.boxes;
    }
