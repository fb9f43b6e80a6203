use Rattle.exec_core.proofs.Imports.{map, range_with_len, start_port, ◌≡◌}
use Rattle.exec_core.proofs.start_state.ports.Given as goal

abbrev pub invariant-loop-e : goal.invariant-loop-e
invariant-loop-e l = l.ports.items ≡ map (start_port l.sizes) (range_with_len 0 l.e)
