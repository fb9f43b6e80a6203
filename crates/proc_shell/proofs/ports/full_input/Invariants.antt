use Rattle.proc_shell.proofs.Imports.{false, holds_data, input_at, true, ℕ, ◌<◌, ◌≡◌}
use Rattle.proc_shell.proofs.ports.full_input.Given as goal

abbrev pub invariant-loop-i : goal.invariant-loop-i
invariant-loop-i g l = (j : ℕ) → j < l.i → g.K.Kernel.open_to l.kernel j ≡ true
    → holds_data (input_at l.view j).flags ≡ false
