use Rattle.command_line.proofs.Imports.{false, get_or, ℕ, ◌<◌, ◌==◌, ◌≡◌}
use Rattle.command_line.proofs.pieces.place_of.Given as goal

abbrev pub invariant-loop-i : goal.invariant-loop-i
invariant-loop-i l = (k : ℕ) → k < l.i → (get_or l.text k 0 == l.byte) ≡ false
