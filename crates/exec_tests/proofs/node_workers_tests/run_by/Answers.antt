use Rattle.std.proofs.Common.{subst, sym}
use Rattle.exec_table.specs.Seats.{identity_of}
use Rattle.exec_tests.proofs.EndedCells.{all-at}
use Rattle.exec_tests.specs.EndedCells.{Lies}
use Rattle.exec_tests.proofs.node_workers_tests.run_by.Goals as goal

pub returns-in-Ok : goal.returns-in-Ok
returns-in-Ok g c =
    let lies = Lies (λ b. (goal.Processor-dyn g (b.vtable, b.value)).seen b.value) in
    all-at (lies (identity_of c.in-Ok.ended.table)) c.in-Ok.ended.cells.items
    (λ n d at. subst (λ t. lies (identity_of t) d) (sym c.in-Ok.ensures.ok.same_table)
    (c.in-Ok.ensures.ok.ended.each n d at).lies)
