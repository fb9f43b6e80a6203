use Rattle.node_ends.proofs.Imports.{is_out_finished, output_at, true, ℕ, ◌<◌, ◌≡◌}
use Rattle.node_ends.proofs.resting.has_open_output.Given as goal

abbrev pub invariant-loop-o : goal.invariant-loop-o
invariant-loop-o l = (j : ℕ) → j < l.o → is_out_finished (output_at l.view j) ≡ true
