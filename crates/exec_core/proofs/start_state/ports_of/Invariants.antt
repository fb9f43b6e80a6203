use Rattle.exec_core.proofs.Imports.{filter, fresh_sight, is_end_among, map, range_with_len, ◌≡◌}
use Rattle.exec_core.proofs.start_state.ports_of.Given as goal

abbrev pub invariant-loop-e : goal.invariant-loop-e
invariant-loop-e l =
    l.seen.items ≡ filter (is_end_among l.n l.wires) (map fresh_sight (range_with_len 0 l.e))
