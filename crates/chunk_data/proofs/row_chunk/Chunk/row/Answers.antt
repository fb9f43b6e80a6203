use Rattle.chunk_data.proofs.Imports.{ap, arith, length, map, row_at, sym, value_at, values, ◌∙◌, ◌≡◌}
use Rattle.chunk_data.proofs.Chunks.{length_rows}
use Rattle.chunk_data.proofs.Rows.{row_of-rows_of}
use Rattle.chunk_data.proofs.row_chunk.Chunk.row.Goals as goal

pub returns : goal.returns
returns c =
    let n : length c.args.self.now.rows ≡ c.self.inside.count =
    ap (λ t. length t.rows) (sym c.self.view_is) ∙ length_rows _ _ _ c.self.invariant in
    c.in_ok-row.ensures
    ∙ ap (λ l. map (λ column. value_at column c.args.i) (map values l)) c.as_slice.ensures.value
    ∙ sym (row_of-rows_of _ _ c.args.i _ c.self.invariant.long (omega arith))
    ∙ ap (λ t. row_at t.rows c.args.i) c.self.view_is
