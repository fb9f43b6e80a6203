use Rattle.chunk_data.proofs.Imports.{arith}
use Rattle.chunk_data.proofs.ColumnLists.{Mapped-more, Mapped-all}
use Rattle.chunk_data.proofs.column_list.truncate_columns.Goals as goal

pub loop-i-preserved : goal.loop-i-preserved
loop-i-preserved c = Mapped-more c.index-columns-i.result _ c.loop-i.invariant (omega arith)
    c.truncate.ensures.kind c.truncate.ensures.front

pub returns-clause-front : goal.returns-clause-front
returns-clause-front c = Mapped-all c.loop-i.invariant (omega arith)
