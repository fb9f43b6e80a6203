use Rattle.exec_core.proofs.Imports.{charged, ◌≡◌, ◌≤◌}
use Rattle.exec_core.proofs.start_state.charged.Given as goal

abbrev pub invariant-loop-n : goal.invariant-loop-n
invariant-loop-n l = record { sum : l.charged ≡ charged l.sizes l.n; small : l.charged ≤ l.n }
