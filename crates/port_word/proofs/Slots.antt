-- Lists of actions without two in one slot, and how long they get.
use Rattle.port_word.proofs.Imports.{Action, Bool, Close, EachAction, Finish, IsOnce, List, Pull, Push, Unwant, Want, [], action_slot, ap, arith, cond, drop, drop-cons, eqb-false, eqb-true, get_or, is_want, length, noted_want, refl, set, suc, take, true, want_of, zero, ℕ, ◌*◌, ◌++◌, ◌<◌, ◌==◌, ◌∷◌, ◌≡◌, ◌≢◌, ◌≤◌}

pub each-append : (P : Action → Type 0) (xs : List Action) (y : Action) → EachAction P xs → P y
    → EachAction P (xs ++ y ∷ [])
each-append P [] y h k = (k, tt)
each-append P (x ∷ xs) y h k = (h.0, each-append P xs y h.1 k)

pub each-map : (P Q : Action → Type 0) (xs : List Action) → ((a : Action) → P a → Q a)
    → EachAction P xs → EachAction Q xs
each-map P Q [] f h = tt
each-map P Q (x ∷ xs) f h = (f x h.0, each-map P Q xs f h.1)

pub once-append : (xs : List Action) (y : Action) → IsOnce xs
    → EachAction (λ b. action_slot b ≢ action_slot y) xs → IsOnce (xs ++ y ∷ [])
once-append [] y o f = (tt, tt)
once-append (x ∷ xs) y o f = search (arith, each-append, once-append xs y o.1 f.1)

-- the actions that aren't in slot n
abbrev without : ℕ → List Action → List Action
without n [] = []
without n (a ∷ rest) = cond (action_slot a == n) (without n rest) (a ∷ without n rest)

without-none : (n : ℕ) (xs : List Action) → EachAction (λ b. action_slot b ≢ n) xs
    → without n xs ≡ xs
without-none n [] h = refl
without-none n (x ∷ xs) h = search (arith, eqb-true, without-none n xs h.1)

length-without : (n : ℕ) (xs : List Action) → IsOnce xs → length xs ≤ suc (length (without n xs))
length-without n [] o = omega arith
length-without n (x ∷ xs) o =
    search (arith, eqb-true, without-none, each-map, length-without n xs o.1)

each-without : (P : Action → Type 0) (n : ℕ) (xs : List Action) → EachAction P xs
    → EachAction P (without n xs)
each-without P n [] h = tt
each-without P n (x ∷ xs) h = search (arith, each-without P n xs h.1)

once-without : (n : ℕ) (xs : List Action) → IsOnce xs → IsOnce (without n xs)
once-without n [] o = tt
once-without n (x ∷ xs) o = search (arith, each-without, once-without n xs o.1)

below-without : (n : ℕ) (xs : List Action) → EachAction (λ a. action_slot a < suc n) xs
    → EachAction (λ a. action_slot a < n) (without n xs)
below-without n [] h = tt
below-without n (x ∷ xs) h = search (arith, eqb-false, below-without n xs h.1)

-- so many actions fit as there are slots
pub once-fits : (n : ℕ) (xs : List Action) → IsOnce xs → EachAction (λ a. action_slot a < n) xs
    → length xs ≤ n
once-fits zero [] o h = omega arith
once-fits zero (x ∷ xs) o h = let lt : action_slot x < zero = h.0 in absurd (omega arith)
once-fits (suc n) xs o h = search (
  arith,
  length-without,
  once-without,
  below-without,
  once-fits n (without n xs) (once-without n xs o) (below-without n xs h),
)

pub slot-is_want : (i : ℕ) (a : Action) → is_want i a ≡ true → action_slot a ≡ 5 * i
slot-is_want i (Want j) e = ap (λ k. 5 * k) (eqb-true j i e)
slot-is_want i (Unwant j) e = ap (λ k. 5 * k) (eqb-true j i e)
slot-is_want i (Pull j) e = cc
slot-is_want i (Close j) e = cc
slot-is_want i (Push j chunk) e = cc
slot-is_want i (Finish j) e = cc

pub each-noted_want : (P : Action → Type 0) (i : ℕ) (b : Bool) (xs : List Action) → EachAction P xs
    → P (want_of b i) → EachAction P (noted_want i b xs)
each-noted_want P i b [] h k = (k, tt)
each-noted_want P i b (x ∷ xs) h k = search (arith, each-noted_want P i b xs h.1 k)

pub once-noted_want : (i : ℕ) (b : Bool) (xs : List Action) → IsOnce xs → IsOnce (noted_want i b xs)
once-noted_want i b [] o = (tt, tt)
once-noted_want i b (x ∷ xs) o =
    search (arith, slot-is_want, each-map, each-noted_want, eqb-false, once-noted_want i b xs o.1)

set-split : (k : ℕ) (xs : List Action) (w : Action) → k < length xs
    → take k xs ++ w ∷ drop (suc k) xs ≡ set xs k w
set-split k [] w h = absurd (omega arith)
set-split zero (x ∷ xs) w h = refl
set-split (suc k) (x ∷ xs) w h = ap (λ l. x ∷ l) (set-split k xs w (omega arith))

pub noted_want-found : (i k : ℕ) (b : Bool) (xs : List Action) (d : Action) → k < length xs
    → is_want i (get_or xs k d) ≡ true → noted_want i b xs ≡ take k xs ++ noted_want i b (drop k xs)
    → noted_want i b xs ≡ set xs k (want_of b i)
noted_want-found i k b xs d h e inv = search (arith, drop-cons, set-split)
