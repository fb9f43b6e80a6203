use Rattle.node_ends.proofs.Imports.{false, has_room, output_at, ℕ, ◌<◌, ◌≡◌}
use Rattle.node_ends.proofs.resting.has_no_room.Given as goal

abbrev pub invariant-loop-o : goal.invariant-loop-o
invariant-loop-o l = (j : ℕ) → j < l.o → has_room (output_at l.view j) ≡ false
