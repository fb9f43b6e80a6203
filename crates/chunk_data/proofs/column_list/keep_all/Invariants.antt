use Rattle.chunk_data.proofs.Imports.{kept}
use Rattle.chunk_data.proofs.ColumnLists.{Mapped}
use Rattle.chunk_data.proofs.column_list.keep_all.Given as goal

abbrev pub invariant-loop-i : goal.invariant-loop-i
invariant-loop-i l = Mapped (kept l.mask) l.initial.columns l.columns l.i
