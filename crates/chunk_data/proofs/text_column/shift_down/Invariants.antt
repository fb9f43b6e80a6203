use Rattle.chunk_data.proofs.Imports.{◌-◌, ◌≡◌}
use Rattle.chunk_data.proofs.ColumnLists.{changed}
use Rattle.chunk_data.proofs.text_column.shift_down.Given as goal

abbrev pub invariant-loop-i : goal.invariant-loop-i
invariant-loop-i l = l.ends.items ≡ changed (λ e. e - l.by) l.i l.initial.ends.items
