use Rattle.csv_rows.proofs.Imports.{◌≡◌, ◌++◌, row_at, row_front}
use Rattle.csv_rows.proofs.text.append_row.Given as goal

abbrev pub invariant-loop-c : goal.invariant-loop-c
invariant-loop-c l = l.out.items ≡ l.initial.out.items ++ row_front (row_at l.chunk.rows l.i) l.c
