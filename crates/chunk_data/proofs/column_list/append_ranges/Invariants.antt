use Rattle.chunk_data.proofs.Imports.{map, value_range}
use Rattle.chunk_data.proofs.ColumnLists.{Joined}
use Rattle.chunk_data.proofs.column_list.append_ranges.Given as goal

abbrev pub invariant-loop-i : goal.invariant-loop-i
invariant-loop-i l =
    Joined (map (value_range l.from l.n) l.others) l.initial.columns l.columns l.i
