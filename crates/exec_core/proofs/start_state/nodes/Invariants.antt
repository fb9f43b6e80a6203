use Rattle.exec_core.proofs.Imports.{map, range_with_len, start_node, ◌≡◌}
use Rattle.exec_core.proofs.start_state.nodes.Given as goal

abbrev pub invariant-loop-n : goal.invariant-loop-n
invariant-loop-n l = l.nodes.items ≡ map (start_node l.sizes) (range_with_len 0 l.n)
