-- Laws of lists by their places: one that is set, numbers that stand once, and counts.
use Rattle.chunk_data.proofs.Imports.{Bool, List, [], ap, arith, cases_lt, cond, count_by, eqb-true, false, false_from_ne_true, get_or, get_or-append_right, get_or-map, get_or-set_other, get_or-set_same, get_or_append_left, inl, inr, length, length-append, length-map, length-set, map, map-set, refl, rules, set, subst, suc, sum_by-cons, sym, true, zero, ℕ, ◌++◌, ◌+◌, ◌-◌, ◌<◌, ◌==◌, ◌∙◌, ◌∷◌, ◌≡◌, ◌≢◌, ◌≤◌}
use Rattle.chunk_data.specs.Places.{AreOnce, Changes}

-- ---- one place

-- what holds of each place of a list in which one place was set
pub at-set : {A : Type 0} (P : A → Type 0) (xs : List A) (n m : ℕ) (y past : A) → n < length xs
    → (m ≡ n → P y) → (m ≢ n → P (get_or xs m past)) → P (get_or (set xs n y) m past)
at-set P xs n m y past lt here other = search (arith, get_or-set_same, get_or-set_other)

-- a place that is set has changed alone
pub Changes-set : {A : Type 0} (past : A) (n : ℕ) (R : A → A → Type 0) (xs : List A) (y : A)
    → n < length xs → R (get_or xs n past) y → Changes past n R xs (set xs n y)
Changes-set past n R xs y lt h = search (rules, length-set, get_or-set_same, get_or-set_other)

-- the same of what is seen of each element
pub Changes-map_set : {A B : Type 0} (f : A → B) (past : B) (n : ℕ) (R : B → B → Type 0)
    (xs : List A) (x y : A) → n < length xs → x ≡ get_or xs n x → R (f x) (f y)
    → Changes past n R (map f xs) (map f (set xs n y))
Changes-map_set f past n R xs x y lt read h = rw map-set
    (Changes-set past n R (map f xs) (f y) (rw length-map lt)
    (rw (get_or-map f xs n x past lt ∙ ap f (sym read)) h))

-- ---- numbers that stand once

pub AreOnce-tail : (x : ℕ) (xs : List ℕ) → AreOnce (x ∷ xs) → AreOnce xs
AreOnce-tail x xs once j k lj lk e =
    let same = once (suc j) (suc k) (omega (arith, lj)) (omega (arith, lk)) e in omega (arith, same)

-- the first stands nowhere behind
pub AreOnce-head : (x : ℕ) (xs : List ℕ) → AreOnce (x ∷ xs) → (k : ℕ) → k < length xs
    → get_or xs k 0 ≢ x
AreOnce-head x xs once k lt e =
    let same = once (suc k) 0 (omega (arith, lt)) (omega arith) e in absurd (omega (arith, same))

-- two lists behind each other, where P holds of each number of the first and of none of the second
pub AreOnce-append : (P : ℕ → Type 0) (xs ys : List ℕ) → AreOnce xs → AreOnce ys
    → ((j : ℕ) → j < length xs → P (get_or xs j 0))
    → ((k : ℕ) → k < length ys → P (get_or ys k 0) → ⊥) → AreOnce (xs ++ ys)
AreOnce-append P xs ys once once' first second i j li lj e =
    let len = length-append xs ys in
    elim (cases_lt i (length xs)) [
      | inl less ↦ elim (cases_lt j (length xs)) [
        | inl below ↦ once i j less below (rw (
          get_or_append_left xs ys 0 i less,
          get_or_append_left xs ys 0 j below,
        ) at e)
        | inr le ↦ absurd (differ i j less le lj e)
      ]
      | inr more ↦ elim (cases_lt j (length xs)) [
        | inl below ↦ absurd (differ j i below more li (sym e))
        | inr le ↦
            let same = once' (i - length xs) (j - length xs) (omega (arith, li, more, len))
            (omega (arith, lj, le, len)) (rw (
              get_or-append_right xs ys i 0 more,
              get_or-append_right xs ys j 0 le,
            ) at e) in
            omega (arith, same, more, le)
      ]
    ]
  where
    differ : (i j : ℕ) → i < length xs → length xs ≤ j → j < length (xs ++ ys)
        → get_or (xs ++ ys) i 0 ≡ get_or (xs ++ ys) j 0 → ⊥
    differ i j less le lj e =
        let len = length-append xs ys in
        second (j - length xs) (omega (arith, lj, le, len))
        (subst P (rw (get_or_append_left xs ys 0 i less, get_or-append_right xs ys j 0 le) at e)
        (first i less))

-- ---- counts

pub count_by-cons : {A : Type 0} (test : A → Bool) (x : A) (xs : List A)
    → count_by test (x ∷ xs) ≡ cond (test x) 1 0 + count_by test xs
count_by-cons test x xs = sum_by-cons (λ y. cond (test y) 1 0) x xs

pub count_by-append : {A : Type 0} (test : A → Bool) (xs ys : List A)
    → count_by test (xs ++ ys) ≡ count_by test xs + count_by test ys
count_by-append test [] ys = let none : count_by test [] ≡ 0 = refl in omega (arith, none)
count_by-append test (x ∷ xs) ys = grind (arith, count_by-cons, count_by-append test xs ys)

-- none passes the test
pub count_by-none : {A : Type 0} (past : A) (test : A → Bool) (xs : List A)
    → ((k : ℕ) → k < length xs → test (get_or xs k past) ≡ false) → count_by test xs ≡ 0
count_by-none past test [] h = refl
count_by-none past test (x ∷ xs) h =
    let off : test x ≡ false = h 0 (omega arith) in
    let rest = count_by-none past test xs (λ k lt. h (suc k) (omega (arith, lt))) in
    count_by-cons test x xs ∙ rw (off, rest) refl

-- a number of a list where each stands once
pub count_by-once : (xs : List ℕ) (m : ℕ) → AreOnce xs → (j : ℕ) → j < length xs
    → get_or xs j 0 ≡ m → count_by (λ q. q == m) xs ≡ 1
count_by-once [] m once j lt is = absurd (omega (arith, lt))
count_by-once (x ∷ xs) m once zero lt is =
    let rest = count_by-none 0 (λ q. q == m) xs (λ k less. false_from_ne_true _ (λ t.
    AreOnce-head x xs once k less (eqb-true _ _ t ∙ sym is))) in
    let here : (x == m) ≡ true = grind (arith, is) in
    count_by-cons (λ q. q == m) x xs ∙ rw (here, rest) refl
count_by-once (x ∷ xs) m once (suc j) lt is =
    let rest = count_by-once xs m (AreOnce-tail x xs once) j (omega (arith, lt)) is in
    let off : (x == m) ≡ false = false_from_ne_true _ (λ t.
    AreOnce-head x xs once j (omega (arith, lt)) (is ∙ sym (eqb-true _ _ t))) in
    count_by-cons (λ q. q == m) x xs ∙ rw (off, rest) refl
