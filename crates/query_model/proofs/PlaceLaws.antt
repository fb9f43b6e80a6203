-- The place of the first that passes a test.
use Rattle.query_model.proofs.Imports.{Bool, List, [], arith, false, get_or, length, list_any, place_of, refl, suc, take, true, zero, ℕ, ◌<◌, ◌∷◌, ◌≡◌, ◌≤◌}

-- the first that passes
pub place_found : {A : Type 0} (test : A → Bool) (xs : List A) (i : ℕ) (d : A) → list_any test
    (take i xs) ≡ false → i < length xs → test (get_or xs i d) ≡ true → i ≡ place_of test xs
place_found test [] i d none lt t = absurd (omega arith)
place_found test (x ∷ xs) zero d none lt t = rw t refl
place_found test (x ∷ xs) (suc i) d none lt t = grind (arith, place_found test xs i d)

-- a place that was found is one of the places
pub place_within : {A : Type 0} (test : A → Bool) (xs : List A) → list_any test xs ≡ true
    → place_of test xs < length xs
place_within test [] h = absurd cc
place_within test (x ∷ xs) h = search (arith, place_within test xs)

-- none passes
pub place_at_end : {A : Type 0} (test : A → Bool) (xs : List A) (i : ℕ)
    → list_any test (take i xs) ≡ false → length xs ≤ i → length xs ≡ place_of test xs
place_at_end test [] i none le = refl
place_at_end test (x ∷ xs) zero none le = absurd (omega (arith, le))
place_at_end test (x ∷ xs) (suc i) none le = grind (arith, place_at_end test xs i)

pub place_of-le : {A : Type 0} (test : A → Bool) (xs : List A) → place_of test xs ≤ length xs
place_of-le test [] = omega arith
place_of-le test (x ∷ xs) = search (arith, place_of-le test xs)
