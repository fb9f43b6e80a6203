use Rattle.chunk_data.proofs.Chunks.{is_table}
use Rattle.chunk_data.proofs.row_chunk.Chunk.rows.Goals as goal

pub returns-clause-fit : goal.returns-clause-fit
returns-clause-fit c = is_table _ _ _ _ c.self.invariant c.self.view_is
