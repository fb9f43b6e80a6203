-- Claims of all numbers below one.
use Rattle.pipeline_exec.proofs.Imports.{rules, ℕ, ◌+◌, ◌<◌}

pub one-more : (P : ℕ → Type 0) (k : ℕ) → ((n : ℕ) → n < k → P n) → P k → (n : ℕ) → n < k + 1 → P n
one-more P k h1 h2 n h3 = search rules
