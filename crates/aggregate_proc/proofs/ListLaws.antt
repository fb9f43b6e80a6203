-- What is true of each element of a list, of its filtered and its distinct elements; the rows of
-- columns.
use Rattle.aggregate_proc.proofs.Imports.{◌≡◌, ◌≤◌, ◌<◌, ◌+◌, ℕ, zero, suc, take, get_or, Bool, List, [], ◌∷◌, length, map, filter, refl, ap₂, arith, AllByRecursion, count_up, distinct, map-append, take-suc}

pub all-filter : {A : Type 0} (P : A → Type 0) (p : A → Bool) (xs : List A) → AllByRecursion P xs
    → AllByRecursion P (filter p xs)
all-filter P p [] h = tt
all-filter P p (x ∷ xs) h = grind (arith, all-filter P p xs h.1)

pub all-distinct : {A : Type 0} (P : A → Type 0) (R : A → A → Bool) (xs : List A)
    → AllByRecursion P xs → AllByRecursion P (distinct R xs)
unfolding distinct
all-distinct P R [] h = tt
all-distinct P R (x ∷ xs) h = grind (arith, all-filter, all-distinct P R xs h.1)

pub map-same : {A B : Type 0} (P : A → Type 0) (f g : A → B) → ((x : A) → P x → f x ≡ g x)
    → (xs : List A) → AllByRecursion P xs → map f xs ≡ map g xs
map-same P f g e [] h = refl
map-same P f g e (x ∷ xs) h = ap₂ ◌∷◌ (e x h.0) (map-same P f g e xs h.1)

pub filter-same : {A : Type 0} (P : A → Type 0) (p q : A → Bool) → ((x : A) → P x → p x ≡ q x)
    → (xs : List A) → AllByRecursion P xs → filter p xs ≡ filter q xs
filter-same P p q e [] h = refl
filter-same P p q e (x ∷ xs) h = grind (arith, filter-same P p q e xs h.1)

-- the first elements, one by one
pub map_of_places_is_take : {A : Type 0} (n : ℕ) (l : List A) (d : A) → n ≤ length l
    → map (λ c. get_or l c d) (count_up n) ≡ take n l
unfolding count_up
map_of_places_is_take zero l d le = refl
map_of_places_is_take (suc n) l d le =
    grind (arith, map-append, take-suc, map_of_places_is_take n l d (omega (arith, le)))

-- what holds of the elements below a place, and of that at it, holds of those below the next
pub below-next : {A : Type 0} (P : A → Type 0) (l : List A) (i : ℕ) (x : A) → i < length l
    → P (get_or l i x) → ((k : ℕ) (d : A) → k < i → P (get_or l k d))
    → (k : ℕ) (d : A) → k < i + 1 → P (get_or l k d)
below-next P [] i x lt p h k d b = absurd (omega (arith, lt))
below-next P (y ∷ l) zero x lt p h zero d b = p
below-next P (y ∷ l) zero x lt p h (suc k) d b = absurd (omega (arith, b))
below-next P (y ∷ l) (suc i) x lt p h zero d b = h zero d (omega arith)
below-next P (y ∷ l) (suc i) x lt p h (suc k) d b =
    below-next P l i x (omega (arith, lt)) p (λ k d lt. h (suc k) d (omega (arith, lt))) k d
    (omega (arith, b))
