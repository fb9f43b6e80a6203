-- What stands at a place of a list.
use Rattle.node_ends.proofs.Imports.{List, [], ap, arith, at_index, cases_lt, drop, get_elem?, get_or, inl, inr, length, map, refl, some, some-injective, some-ne-none, subst, suc, sym, take, zero, ℕ, ◌++◌, ◌+◌, ◌<◌, ◌∙◌, ◌∷◌, ◌≡◌, ◌≤◌}

-- something stands at each place below the length
pub there : {A : Type 0} (l : List A) (n : ℕ) → n < length l
    → (a : A) × (get_elem? l n ≡ some a)
there [] n lt = absurd (omega arith)
there (x ∷ xs) zero lt = (x, refl)
there (x ∷ xs) (suc n) lt = there xs n (omega arith)

-- a place at which something stands is below the length
pub below : {A : Type 0} (l : List A) (n : ℕ) (a : A) → get_elem? l n ≡ some a → n < length l
below [] n a e = absurd (some-ne-none a (sym e))
below (x ∷ xs) zero a e = omega arith
below (x ∷ xs) (suc n) a e = let h = below xs n a e in omega arith

-- what a function makes of what stands at a place
pub read-map : {A B : Type 0} (f : A → B) (l : List A) (n : ℕ) (a : A) (d : B)
    → get_elem? l n ≡ some a → get_or (map f l) n d ≡ f a
read-map f [] n a d e = absurd (some-ne-none a (sym e))
read-map f (x ∷ xs) zero a d e = ap f (some-injective x a e)
read-map f (x ∷ xs) (suc n) a d e = read-map f xs n a d e

-- what is true of each element and of the default is true wherever one reads
pub each-or-default : {A B : Type 0} (Q : B → Type 0) (f : A → B) (d : B) (l : List A)
    → ((n : ℕ) (a : A) → get_elem? l n ≡ some a → Q (f a)) → Q d → (n : ℕ)
    → Q (get_or (map f l) n d)
each-or-default Q f d [] h q n = q
each-or-default Q f d (x ∷ xs) h q zero = h 0 x refl
each-or-default Q f d (x ∷ xs) h q (suc n) =
    each-or-default Q f d xs (λ k a e. h (suc k) a e) q n

-- a slice of the whole list was written
pub written-whole : {A : Type 0} (w old : List A) (k : ℕ) → length w ≡ length old → k ≡ length w
    → take k (w ++ drop (length w) old) ≡ w
written-whole {A} w old k h is = rw is (by w old h)
  where
    by : (w old : List A) → length w ≡ length old → take (length w) (w ++ drop (length w) old) ≡ w
    by [] old h = refl
    by (x ∷ xs) [] h = absurd (omega (arith, h))
    by (x ∷ xs) (y ∷ ys) h = ap (λ l. x ∷ l) (by xs ys (omega (arith, h)))

-- what is true at the first so many places
abbrev pub EachBelow : {A : Type 0} → (A → Type 0) → ℕ → List A → Type 0
EachBelow {A} Q k l = (n : ℕ) (a : A) → n < k → get_elem? l n ≡ some a → Q a

module _ {A : Type 0} (Q : A → Type 0) (l : List A) where
  -- it is true at one more
  pub each-more : (k : ℕ) (x : A) → EachBelow Q k l → k < length l → x ≡ get_or l k x → Q x
      → EachBelow Q (k + 1) l
  each-more k x all lt read h n a less e = elim (cases_lt n k) [
    | inl l ↦ all n a l e
    | inr m ↦ let is : n ≡ k = omega (arith, less, m) in
        subst Q (some-injective x a (sym (at_index l k x lt read)
        ∙ (ap (get_elem? l) (sym is) ∙ e))) h
  ]

  -- it is true everywhere
  pub each-all : (k : ℕ) → EachBelow Q k l → length l ≤ k → (n : ℕ) (a : A) → get_elem? l n ≡ some a
      → Q a
  each-all k all le n a e = all n a (omega (arith, le, below l n a e)) e
