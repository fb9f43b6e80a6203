use Rattle.chunk_data.proofs.Imports.{take, ◌≡◌}
use Rattle.chunk_data.proofs.lists.List.copy.Given as goal

abbrev pub invariant-loop-item : goal.invariant-loop-item
invariant-loop-item g l = l.items.items ≡ take l.item-index l.item-items
