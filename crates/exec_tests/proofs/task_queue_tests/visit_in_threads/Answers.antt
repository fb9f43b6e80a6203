use Rattle.std.proofs.Common.{ap, sym, ◌∙◌}
use Rattle.task_queue.specs.Shelves.{parts}
use Rattle.task_queue.proofs.Counts.{total-same}
use Rattle.exec_tests.proofs.task_queue_tests.visit_in_threads.Goals as goal

pub returns-clause-parts : goal.returns-clause-parts
returns-clause-parts g c =
    total-same parts c.args.seats.now c.for_each_mut.new.s c.for_each_mut.auto.s (λ i d less.
    let at = (c.for_each_mut.ensures i d less).1 in
    ap parts (sym at.left) ∙ (at.call.1 ∙ ap parts at.argument_is))
