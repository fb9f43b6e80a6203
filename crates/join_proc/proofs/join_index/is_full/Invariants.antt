use Rattle.join_proc.proofs.Imports.{false, is_null, key_at, list_any, row_at, take, ◌≡◌}
use Rattle.join_proc.proofs.join_index.is_full.Given as goal

abbrev pub invariant-loop-column : goal.invariant-loop-column
invariant-loop-column l =
    list_any is_null (key_at (take l.column-index l.columns) (row_at l.chunk.rows l.i)) ≡ false
