-- Lists by their places: what has changed at one of them, and numbers that stand once.
use Rattle.std.specs.Prelude.{◌≡◌, ◌≢◌, ℕ, ◌<◌, List, length, slice_index_or}

-- one place alone has changed, in this way
pub record Changes {A : Type 0} (past : A) (n : ℕ) (R : A → A → Type 0)
    (xs ys : List A) : Type 0 where
  pub len : length ys ≡ length xs
  pub here : R (slice_index_or xs n past) (slice_index_or ys n past)
  pub others : (m : ℕ) → m ≢ n → slice_index_or ys m past ≡ slice_index_or xs m past

-- no two places below n are the same in this way
abbrev pub AreOnceBy : ℕ → (ℕ → ℕ → Type 0) → Type 0
AreOnceBy n IsSame = (j k : ℕ) → j < n → k < n → IsSame j k → j ≡ k

-- no number stands twice in the list
abbrev pub AreOnce : List ℕ → Type 0
AreOnce xs = AreOnceBy (length xs) (λ j k. slice_index_or xs j 0 ≡ slice_index_or xs k 0)
