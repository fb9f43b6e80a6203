use Rattle.csv_rows.proofs.Imports.{rows_text}
use Rattle.query_model.proofs.Imports.{take, ◌++◌, ◌≡◌}
use Rattle.csv_rows.proofs.text.append_chunk.Given as goal

abbrev pub invariant-loop-i : goal.invariant-loop-i
invariant-loop-i l = l.out.items ≡ l.initial.out.items ++ rows_text (take l.i l.chunk.rows)
