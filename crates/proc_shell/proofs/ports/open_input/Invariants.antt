use Rattle.proc_shell.proofs.Imports.{input_at, is_in_finished, true, ℕ, ◌<◌, ◌≡◌}
use Rattle.proc_shell.proofs.ports.open_input.Given as goal

abbrev pub invariant-loop-i : goal.invariant-loop-i
invariant-loop-i g l = (j : ℕ) → j < l.i → g.K.Kernel.open_to l.kernel j ≡ true
    → is_in_finished (input_at l.view j).flags ≡ true
