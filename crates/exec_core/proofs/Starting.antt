-- The loops that make the state at the start.
use Rattle.exec_core.proofs.Imports.{Sizes, arith, fits, length, reserved_edge_count, start-laws, sum_by-map-range_with_len_more, true, ◌+◌, ◌≡◌, ◌≤◌}

-- one more of what is summed by counting
pub ruleset one_more = (sum_by-map-range_with_len_more)

-- sizes that fit have few edges
pub fits_edges : (s : Sizes) → fits s ≡ true → length s.wires + reserved_edge_count s.reserves
    ≤ 1024
fits_edges s h = grind arith

pub ruleset laws = (start-laws, fits_edges)
