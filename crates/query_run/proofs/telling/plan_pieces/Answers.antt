use Rattle.std.proofs.Common.{[], codes, decimal, ◌++◌, ◌∷◌, ◌∙◌}
use Rattle.query_run.proofs.Lines.{words-last}
use Rattle.query_run.proofs.telling.plan_pieces.Goals as goal

pub returns-in-Paths : goal.returns-in-Paths
returns-in-Paths c = rw c.in-Paths.is (c.line.ensures
    ∙ rw c.as_slice.ensures (words-last (codes "qrun: limit: paths of " ++ c.in-Paths.name)
    (codes " are ") (decimal c.in-Paths.count) (codes ", at most 32") (10 ∷ [])))
