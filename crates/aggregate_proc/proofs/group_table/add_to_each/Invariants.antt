use Rattle.aggregate_proc.proofs.Imports.{changed, with_rows, ◌≡◌}
use Rattle.aggregate_proc.proofs.group_table.add_to_each.Given as goal

abbrev pub invariant-loop-i : goal.invariant-loop-i
invariant-loop-i l =
    l.columns.items ≡ changed (with_rows l.places l.chunk.rows) l.i l.initial.columns.items
