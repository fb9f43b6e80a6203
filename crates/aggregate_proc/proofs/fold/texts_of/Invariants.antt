use Rattle.aggregate_proc.proofs.Imports.{take, ◌≡◌}
use Rattle.aggregate_proc.proofs.fold.texts_of.Given as goal

abbrev pub invariant-loop-i : goal.invariant-loop-i
invariant-loop-i l = l.texts ≡ take l.i l.items.items
