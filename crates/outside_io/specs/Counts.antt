-- Counts of faults and of pendings, which stand still at the last value of 64 bits.
use Rattle.std.specs.Prelude.{ℕ, ◌+◌, ◌-◌, ◌^◌, ◌≤◌, min}
use Rattle.std.proofs.Common.{arith}

-- the count after it went up by one; at its last value it stays
abbrev pub one_more : ℕ → ℕ
one_more count = min (count + 1) (2 ^ 64 - 1)

-- the count rose, or it stands at its last value
abbrev pub CountIncreased : ℕ → ℕ → Type 0
CountIncreased old new = one_more old ≤ new

-- a count that rises from a later value has risen from an earlier one
pub CountIncreased-earlier : (earlier old new : ℕ) → earlier ≤ old → CountIncreased old new
    → CountIncreased earlier new
CountIncreased-earlier earlier old new kept rose = omega arith
