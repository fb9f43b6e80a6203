use Rattle.chunk_data.proofs.Imports.{take}
use Rattle.chunk_data.proofs.ColumnLists.{Mapped}
use Rattle.chunk_data.proofs.column_list.truncate_columns.Given as goal

abbrev pub invariant-loop-i : goal.invariant-loop-i
invariant-loop-i l = Mapped (take l.n) l.initial.columns l.columns l.i
