use Rattle.std.proofs.Common.{get_or, length, ◌<◌, ◌≡◌, ◌≤◌, ℕ}
use Rattle.proc_api.specs.Reserves.{behind_wires, no_reserve}
use Rattle.exec_graph.proofs.reserves.behind_wires.Given as goal

-- the reserves below the index are renumbered, and the others are as they were
abbrev pub invariant-loop-reserve : goal.invariant-loop-reserve
invariant-loop-reserve l =
    (length l.reserve-items ≡ length l.fn.reserves)
    × ((k : ℕ) → k < l.reserve-index
    → get_or l.reserve-items k no_reserve
    ≡ behind_wires l.wires (get_or l.fn.reserves k no_reserve))
    × ((k : ℕ) → l.reserve-index ≤ k
    → get_or l.reserve-items k no_reserve ≡ get_or l.fn.reserves k no_reserve)
