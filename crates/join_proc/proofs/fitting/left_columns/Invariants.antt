use Rattle.join_proc.proofs.Imports.{left_places, take, ◌≡◌}
use Rattle.join_proc.proofs.fitting.left_columns.Given as goal

abbrev pub invariant-loop-pair : goal.invariant-loop-pair
invariant-loop-pair l = l.columns.items ≡ left_places (take l.pair-index l.join.pairs)
