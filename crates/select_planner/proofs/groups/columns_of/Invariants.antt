use Rattle.select_planner.proofs.Imports.{column_items, take, ◌≡◌}
use Rattle.select_planner.proofs.groups.columns_of.Given as goal

abbrev pub invariant-loop-place : goal.invariant-loop-place
invariant-loop-place l = l.items.items ≡ column_items (take l.place-index l.places)
