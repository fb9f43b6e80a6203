use Rattle.chunk_data.proofs.Imports.{ap, arith, map, take, take_all, ◌∙◌}
use Rattle.chunk_data.proofs.Chunks.{columns_after, length_rows, rows_after}
use Rattle.chunk_data.proofs.Rows.{AreLong-take, rows_of-take}
use Rattle.chunk_data.proofs.row_chunk.Chunk.truncate.Goals as goal

pub invariant_of-self : goal.invariant_of-self
invariant_of-self c =
    columns_after (map (take c.args.n)) _ _ _ _ c.deref_mut.ensures.value (omega arith)
    (omega arith)
    c.truncate_columns.ensures.front _ _ c.self.invariant.kinds c.truncate_columns.ensures.kinds
    (AreLong-take c.args.n _ _ c.self.invariant.long (omega arith))

pub returns-then-n-self-clause-rows : goal.returns-then-n-self-clause-rows
returns-then-n-self-clause-rows c =
    rows_after (map (take c.args.n)) _ _ _ _ c.deref_mut.ensures.value (omega arith) (omega arith)
    c.truncate_columns.ensures.front _ (rows_of-take c.args.n c.self.inside.count _ (omega arith))
    ∙ ap (λ t. take c.args.n t.rows) c.self.view_is

pub returns-else-n-self-clause-rows : goal.returns-else-n-self-clause-rows
returns-else-n-self-clause-rows c = search (arith, length_rows, take_all)
