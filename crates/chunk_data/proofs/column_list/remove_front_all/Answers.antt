use Rattle.chunk_data.proofs.Imports.{arith}
use Rattle.chunk_data.proofs.ColumnLists.{Mapped-more, Mapped-all}
use Rattle.chunk_data.proofs.column_list.remove_front_all.Goals as goal

pub loop-i-preserved : goal.loop-i-preserved
loop-i-preserved c = Mapped-more c.index-columns-i.result _ c.loop-i.invariant (omega arith)
    c.remove_front.ensures.kind c.remove_front.ensures.rest

pub returns-clause-rest : goal.returns-clause-rest
returns-clause-rest c = Mapped-all c.loop-i.invariant (omega arith)
