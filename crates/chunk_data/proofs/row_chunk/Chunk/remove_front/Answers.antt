use Rattle.chunk_data.proofs.Imports.{ap, arith, drop, map, ◌∙◌}
use Rattle.chunk_data.proofs.Chunks.{columns_after, rows_after}
use Rattle.chunk_data.proofs.Rows.{AreLong-drop, rows_of-drop}
use Rattle.chunk_data.proofs.row_chunk.Chunk.remove_front.Goals as goal

pub invariant_of-self : goal.invariant_of-self
invariant_of-self c =
    columns_after (map (drop c.args.n)) _ _ _ _ c.deref_mut.ensures.value (omega arith)
    (omega arith)
    c.remove_front_all.ensures.rest _ _ c.self.invariant.kinds c.remove_front_all.ensures.kinds
    (rw c.saturating_sub-self-inside.ensures (AreLong-drop c.args.n _ _ c.self.invariant.long))

pub returns-clause-rows : goal.returns-clause-rows
returns-clause-rows c =
    rows_after (map (drop c.args.n)) _ _ _ _ c.deref_mut.ensures.value (omega arith) (omega arith)
    c.remove_front_all.ensures.rest _
    (rw c.saturating_sub-self-inside.ensures (rows_of-drop c.args.n _ _ c.self.invariant.long))
    ∙ ap (λ t. drop c.args.n t.rows) c.self.view_is
