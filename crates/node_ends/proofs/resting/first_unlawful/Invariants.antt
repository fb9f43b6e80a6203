use Rattle.node_ends.proofs.Imports.{SupportsStatus, cell_at, pictures_of, ℕ, ◌<◌}
use Rattle.node_ends.proofs.resting.first_unlawful.Given as goal

abbrev pub invariant-loop-n : goal.invariant-loop-n
invariant-loop-n g l = (k : ℕ) → k < l.n
    → SupportsStatus (cell_at (pictures_of g.P.Processor.seen l.cells.items) k)
