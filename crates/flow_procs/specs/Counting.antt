-- Numbers in order, as rows.
use Rattle.std.specs.Prelude.{◌-◌, ◌∷◌}
use Rattle.flow_procs.specs.Prelude.{IsShelled, List, OwnState, Row, Spec, UInt, [], idle_own, map, refl, shelled-of, suc, zero, ℕ}

-- so many numbers from the first on
abbrev pub count_on : (first count : ℕ) → List ℕ
count_on first zero = []
count_on first (suc count) = first ∷ count_on (suc first) count

abbrev pub number_row : ℕ → Row
number_row n = UInt n ∷ []

-- the rows that are left to be made
abbrev pub counting_own : (next end : ℕ) → OwnState
counting_own next end = record idle_own { unmade = map number_row (count_on next (end - next)) }

pub numbers_shelled : (end rows : ℕ) → IsShelled (Spec.Numbers end rows)
numbers_shelled end rows =
    shelled-of (Spec.Numbers end rows) 0 refl (record { ports = λ growth m n h. h })
