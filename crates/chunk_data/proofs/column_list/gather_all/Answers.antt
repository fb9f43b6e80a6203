use Rattle.chunk_data.proofs.Imports.{arith}
use Rattle.chunk_data.proofs.Chunks.{column_long}
use Rattle.chunk_data.proofs.column_list.gather_all.Goals as goal

pub gather-requires : goal.gather-requires
gather-requires c = rw (column_long _ _ c.loop-column.column-index _ c.requires.long (omega arith)
    c.column-item.is) c.requires.in_range
