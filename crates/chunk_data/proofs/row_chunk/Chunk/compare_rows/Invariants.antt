use Rattle.chunk_data.proofs.Imports.{drop, row_at, row_cmp, ◌≡◌}
use Rattle.chunk_data.proofs.row_chunk.Chunk.compare_rows.Given as goal

abbrev pub invariant-loop-key : goal.invariant-loop-key
invariant-loop-key l =
    row_cmp (drop l.key-index l.keys) (row_at l.self.rows l.i) (row_at l.other.rows l.j)
    ≡ row_cmp l.keys (row_at l.self.rows l.i) (row_at l.other.rows l.j)
