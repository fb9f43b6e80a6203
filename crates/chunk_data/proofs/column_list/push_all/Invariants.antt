use Rattle.chunk_data.proofs.Imports.{[], map, ◌∷◌}
use Rattle.chunk_data.proofs.ColumnLists.{Joined}
use Rattle.chunk_data.proofs.column_list.push_all.Given as goal

abbrev pub invariant-loop-i : goal.invariant-loop-i
invariant-loop-i l = Joined (map (λ v. v ∷ []) l.row) l.initial.columns l.columns l.i
