use Rattle.csv_rows.proofs.Imports.{◌≡◌, ◌+◌, ◌-◌, ◌≤◌, length, drop, no_mark, prefix_len}
use Rattle.csv_rows.proofs.field_ends.mark_from.Given as goal

abbrev pub invariant-lanes : goal.invariant-lanes
invariant-lanes l =
    (l.at + prefix_len no_mark (drop l.at l.bytes) ≡ l.i + prefix_len no_mark (drop l.i l.bytes))
    × (l.i ≤ length l.bytes)

abbrev pub decreases-lanes : goal.decreases-lanes
decreases-lanes l = length l.bytes - l.i

abbrev pub invariant-loop-j : goal.invariant-loop-j
invariant-loop-j l =
    l.at + prefix_len no_mark (drop l.at l.bytes) ≡ l.j + prefix_len no_mark (drop l.j l.bytes)
