use Rattle.std.proofs.Common.{ap, ◌∙◌, ◌++◌, ◌∷◌, [], length}
use Rattle.exec_tests.proofs.Fitting.{fit-two}
use Rattle.exec_tests.proofs.task_queue_tests.named_cells.in_row.Goals as goal

pub returns : goal.returns
returns g c =
    let none = c.in-Ok.ensures.items in
    let first = c.push_reserved.ensures.items ∙ ap (λ l. l ++ c.args.a ∷ []) none in
    let second = c.push_reserved-2.ensures.items ∙ ap (λ l. l ++ c.args.b ∷ []) first in
    (ap length second, fit-two g.V.Placed.fits _ c.args.a c.args.b second c.requires.0 c.requires.1)
