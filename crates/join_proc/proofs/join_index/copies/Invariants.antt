use Rattle.join_proc.proofs.Imports.{All, length, ◌≡◌}
use Rattle.join_proc.proofs.join_index.copies.Given as goal

abbrev pub invariant-loop-done : goal.invariant-loop-done
invariant-loop-done l =
    (length l.numbers.items ≡ l._done) × All (λ n. n ≡ l.number) l.numbers.items
