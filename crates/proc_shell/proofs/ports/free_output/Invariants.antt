use Rattle.proc_shell.proofs.Imports.{can_push, false, is_out_finished, output_at, ℕ, ◌<◌, ◌≡◌}
use Rattle.proc_shell.proofs.ports.free_output.Given as goal

abbrev pub invariant-loop-o : goal.invariant-loop-o
invariant-loop-o l = (j : ℕ) → j < l.o → is_out_finished (output_at l.view j) ≡ false
    → can_push (output_at l.view j) ≡ false
