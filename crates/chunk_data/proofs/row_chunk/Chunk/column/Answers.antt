use Rattle.chunk_data.proofs.Imports.{ap, arith, column_type, length, length-map, map, value_at, values, ◌∙◌}
use Rattle.chunk_data.proofs.Chunks.{column_of}
use Rattle.chunk_data.proofs.row_chunk.Chunk.column.Goals as goal

pub returns-clause-values : goal.returns-clause-values
returns-clause-values c =
    ap values c.index.ensures
    ∙ column_of _ _ _ _ _ c.self.invariant (omega (
      arith,
      ap length c.self.invariant.kinds,
      length-map c.self.inside.columns.items column_type,
      ap (λ t. length t.types) c.self.view_is,
    ))
    ∙ ap (λ t. map (λ row. value_at row c.args.c) t.rows) c.self.view_is
