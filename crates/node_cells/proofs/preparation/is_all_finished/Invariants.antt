use Rattle.node_cells.proofs.Imports.{input_at, is_in_finished, true, ℕ, ◌<◌, ◌≡◌}
use Rattle.node_cells.proofs.preparation.is_all_finished.Given as goal

abbrev pub invariant-loop-i : goal.invariant-loop-i
invariant-loop-i l = (j : ℕ) → j < l.i → is_in_finished (input_at l.view j).flags ≡ true
