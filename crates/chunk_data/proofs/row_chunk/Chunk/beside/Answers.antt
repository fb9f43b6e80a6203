use Rattle.chunk_data.proofs.Imports.{◌∙◌}
use Rattle.chunk_data.proofs.Chunks.{append_same, beside_long, beside_kinds, beside_rows}
use Rattle.chunk_data.proofs.row_chunk.Chunk.beside.Goals as goal

pub of_columns-requires : goal.of_columns-requires
of_columns-requires c =
    beside_long _ _ _ _ _ _ (c.in_ok-columns.ensures
    ∙ append_same c.into_vec.ensures c.into_vec-2.ensures) c.rows-rows.ensures.count c.requires
    c.into_columns.ensures.long c.into_columns-2.ensures.long

pub returns-clause-types : goal.returns-clause-types
returns-clause-types c =
    c.in_ok-chunk.ensures.types ∙ beside_kinds _ _ _ _ _
    (c.in_ok-columns.ensures ∙ append_same c.into_vec.ensures c.into_vec-2.ensures)
    c.into_columns.ensures.types c.into_columns-2.ensures.types

pub returns-clause-rows : goal.returns-clause-rows
returns-clause-rows c =
    c.in_ok-chunk.ensures.rows ∙ beside_rows _ _ _ _ _ _ _ _ (c.in_ok-columns.ensures
    ∙ append_same c.into_vec.ensures c.into_vec-2.ensures) c.rows-rows.ensures.count c.requires
    c.into_columns-2.ensures.long c.into_columns.ensures.rows c.into_columns-2.ensures.rows
