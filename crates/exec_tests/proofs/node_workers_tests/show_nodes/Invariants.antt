use Rattle.std.proofs.Common.{All, length}
use Rattle.exec_table.specs.Seats.{identity_of}
use Rattle.exec_tests.specs.EndedCells.{Lies}
use Rattle.exec_tests.proofs.node_workers_tests.show_nodes.Given as goal

abbrev pub invariant-loop-cell : goal.invariant-loop-cell
invariant-loop-cell g l =
    All (Lies (λ b. (goal.Processor-dyn g (b.vtable, b.value)).seen b.value)
    (identity_of l.table)) l.cells.items

abbrev pub decreases-loop-cell : goal.decreases-loop-cell
decreases-loop-cell g l = length l.cells.items
