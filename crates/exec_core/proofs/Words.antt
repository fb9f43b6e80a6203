-- Bits beyond a word's end.
use Rattle.exec_core.proofs.Imports.{ap, arith, bit_at, cases_lt, div-eq_of_lt, inl, inr, pow-lt, subst, ℕ, ◌%◌, ◌<◌, ◌^◌, ◌≡◌, ◌≤◌}

-- a word of 64 bits has none above
pub high_bit : (w k : ℕ) → w < 2 ^ 64 → 64 ≤ k → bit_at w k ≡ 0
high_bit w k a b = ap (λ z. z % 2) (div-eq_of_lt below)
  where
    below : w < 2 ^ k
    below = elim (cases_lt 64 k) [
      | inl l ↦ let p : 2 ^ 64 < 2 ^ k = pow-lt l in omega (arith, a, p)
      | inr l ↦ let e : 64 ≡ k = omega (arith, b, l) in subst (λ z. w < 2 ^ z) e a
    ]
