use Rattle.join_proc.proofs.Imports.{drop, is_full, map, starts_at, ◌++◌, ◌≡◌}
use Rattle.join_proc.proofs.join_index.starts_of.Given as goal

abbrev pub invariant-loop-left : goal.invariant-loop-left
invariant-loop-left l =
    l.starts.items ++ starts_at l.firsts l.rows l.left (drop l.left l.places)
    (drop l.left (map (is_full l.columns) l.chunk.rows))
    ≡ starts_at l.firsts l.rows 0 l.places (map (is_full l.columns) l.chunk.rows)
