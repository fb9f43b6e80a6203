use Rattle.std.proofs.Common.{ap, ◌∙◌, ◌∷◌, ◌++◌, []}
use Rattle.task_queue.proofs.Counts.{nil_from_let_go}
use Rattle.exec_tests.proofs.Fitting.{idle-single}
use Rattle.exec_tests.proofs.task_queue_tests.a_shelf_gives_both_cells_back.Goals as goal

pub clear-items-requires-after_bounds : goal.clear-items-requires-after_bounds
clear-items-requires-after_bounds g c κs =
    let made = c.in-Ok.ensures in let took = c.take-item.ensures in let put = c.put.ensures in
    idle-single c.in-Ok.shelf _ _
    (c.push_reserved.ensures.items ∙ ap (λ l. l ++ c.put.new.seat ∷ []) c.in_ok-seats.ensures.items)
    (put.same.1 ∙ (took.same.1 ∙ made.whole)) (
      put.same.0 ∙ (took.same.0 ∙ made.seat.0),
      nil_from_let_go 0 _ _ (took.held ∙ ap (λ l. 0 ∷ l) made.seat.1) put.left.gone put.left.others,
    )
