-- How often numbers stand in lists, and sums over lists.
use Rattle.std.specs.Prelude.{ℕ, ◌+◌, ◌==◌, nat_lt, List, [], ◌∷◌, cond}

-- 1 where the numbers are equal, else 0
abbrev pub hit : ℕ → ℕ → ℕ
hit n x = cond (n == x) 1 0

-- how often n stands in a list
abbrev pub times : ℕ → List ℕ → ℕ
times n [] = 0
times n (x ∷ xs) = hit n x + times n xs

-- 1 where n is below the count, else 0
abbrev pub once_below : ℕ → ℕ → ℕ
once_below n count = cond (nat_lt n count) 1 0

-- the list with each n taken out
abbrev pub without_each : ℕ → List ℕ → List ℕ
without_each n [] = []
without_each n (x ∷ xs) = cond (n == x) (without_each n xs) (x ∷ without_each n xs)

-- what f gives for each, added up
abbrev pub total_over : {V : Type 0} → (V → ℕ) → List V → ℕ
total_over f [] = 0
total_over f (v ∷ vs) = f v + total_over f vs
