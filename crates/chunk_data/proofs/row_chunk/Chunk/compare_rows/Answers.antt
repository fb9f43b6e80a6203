use Rattle.chunk_data.proofs.RowOrder.{row_cmp_found, row_cmp_more, row_cmp_equal}
use Rattle.chunk_data.proofs.row_chunk.Chunk.compare_rows.Goals as goal

pub returns-in_default : goal.returns-in_default
returns-in_default c =
    row_cmp_found _ _ _ _ _ _ c.loop-key-test.true c.loop-key.invariant c.compare_by.ensures
    c.in_default.not-Equal

pub loop-key-preserved : goal.loop-key-preserved
loop-key-preserved c =
    row_cmp_more _ _ _ _ _ _ c.loop-key-test.true c.loop-key.invariant c.compare_by.ensures
    c.in-Equal.is

pub returns : goal.returns
returns c = row_cmp_equal _ c.loop-key.key-index _ _ c.loop-key-test.false c.loop-key.invariant
