use Rattle.join_proc.proofs.Imports.{right_places, take, ◌≡◌}
use Rattle.join_proc.proofs.fitting.right_columns.Given as goal

abbrev pub invariant-loop-pair : goal.invariant-loop-pair
invariant-loop-pair l = l.columns.items ≡ right_places (take l.pair-index l.join.pairs)
