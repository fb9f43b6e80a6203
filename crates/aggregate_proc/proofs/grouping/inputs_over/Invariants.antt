use Rattle.aggregate_proc.proofs.Imports.{input_at, is_in_finished, true, ℕ, ◌<◌, ◌≡◌}
use Rattle.aggregate_proc.proofs.grouping.inputs_over.Given as goal

abbrev pub invariant-loop-i : goal.invariant-loop-i
invariant-loop-i l = (j : ℕ) → j < l.i → is_in_finished (input_at l.view j).flags ≡ true
