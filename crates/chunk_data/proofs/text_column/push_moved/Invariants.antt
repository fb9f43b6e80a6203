use Rattle.chunk_data.proofs.Imports.{length, map, take, vec_capacity, vec_len, ◌++◌, ◌+◌, ◌-◌, ◌≡◌, ◌≤◌}
use Rattle.chunk_data.proofs.text_column.push_moved.Given as goal

abbrev pub invariant-loop-end : goal.invariant-loop-end
invariant-loop-end l =
    (l.ends.items
    ≡ l.initial.ends.items ++ map (λ e. l.by + (e - l.start)) (take l.end-index l.others))
    × (vec_len l.ends + (length l.others - l.end-index) ≤ vec_capacity l.ends)
