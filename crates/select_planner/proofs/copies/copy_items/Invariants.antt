use Rattle.select_planner.proofs.Imports.{formula, map, take, ◌≡◌}
use Rattle.select_planner.proofs.copies.copy_items.Given as goal

abbrev pub invariant-loop-item : goal.invariant-loop-item
invariant-loop-item l = map formula l.copies.items ≡ map formula (take l.item-index l.items)
