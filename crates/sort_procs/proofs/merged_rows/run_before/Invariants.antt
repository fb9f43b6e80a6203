use Rattle.sort_procs.proofs.Imports.{IsBeforeNone, first_row, next_rows}
use Rattle.sort_procs.proofs.merged_rows.run_before.Given as goal

abbrev pub invariant-loop-n : goal.invariant-loop-n
invariant-loop-n l = IsBeforeNone l.order.keys (first_row l.other) (next_rows l.head l.n)
