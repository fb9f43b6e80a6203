use Rattle.chunk_data.proofs.Imports.{arith, ◌∙◌}
use Rattle.chunk_data.proofs.Chunks.{column_long, row_more}
use Rattle.chunk_data.proofs.column_list.row_of.Goals as goal

pub value-requires : goal.value-requires
value-requires c = rw (column_long _ _ c.loop-column.column-index _ c.requires.long (omega arith)
    c.column-item.is) c.requires.in_range

pub loop-column-preserved : goal.loop-column-preserved
loop-column-preserved c =
    c.in_ok-push.ensures.items ∙ row_more _ _ _ _ _ _ _ c.requires.long c.requires.in_range
    (omega arith) c.column-item.is c.in_ok-value.ensures c.loop-column.invariant
