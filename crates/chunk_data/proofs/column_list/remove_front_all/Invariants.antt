use Rattle.chunk_data.proofs.Imports.{drop}
use Rattle.chunk_data.proofs.ColumnLists.{Mapped}
use Rattle.chunk_data.proofs.column_list.remove_front_all.Given as goal

abbrev pub invariant-loop-i : goal.invariant-loop-i
invariant-loop-i l = Mapped (drop l.n) l.initial.columns l.columns l.i
