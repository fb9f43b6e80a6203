use Rattle.node_ends.proofs.Imports.{false, is_wanting, ℕ, ◌<◌, ◌≡◌}
use Rattle.node_ends.proofs.resting.waits_for_data.Given as goal

abbrev pub invariant-loop-i : goal.invariant-loop-i
invariant-loop-i l = (j : ℕ) → j < l.i → is_wanting l.view j ≡ false
