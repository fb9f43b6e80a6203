-- Places of keys: keys are one exactly where they have one place. The first of a list that passes a
-- test, by what the test says of each.
use Rattle.join_proc.proofs.Imports.{AllByRecursion, IsSame, Row, drop-drop, drop-map, get_or-drop, insert_key, length-drop, list_any, list_any-append, map-map, passes_at_first, places_from, position_or_len, prefix_len-le-length, with_key, Bool, List, [], ap, ap₂, arith, cond, drop, false, filter, fold, get_or, length, map, nat_eq, ne_eqb, not, refl, suc, sym, true, ℕ, ◌++◌, ◌+◌, ◌<◌, ◌||◌, ◌∙◌, ◌∷◌, ◌≡◌, common_steps}

-- the first that passes isn't another one where one that passes comes behind all
place-push : {X : Type 0} (p : X → Bool) (x : X) → p x ≡ true → (xs : List X)
    → position_or_len p (xs ++ x ∷ []) ≡ position_or_len p xs
place-push p x e [] = ap (λ b. cond (not b) (1 + 0) 0) e
place-push p x e (y ∷ xs) = ap (λ n. cond (not (p y)) (1 + n) 0) (place-push p x e xs)

-- nor where some follow one that passes
place-behind : {X : Type 0} (p : X → Bool) (xs ys : List X) → list_any p xs ≡ true
    → position_or_len p (xs ++ ys) ≡ position_or_len p xs
place-behind p [] ys h = absurd (cc)
place-behind p (x ∷ xs) ys h = go (p x) refl (λ e. place-behind p xs ys e)
  where
    go : (b : Bool) → p x ≡ b
        → (list_any p xs ≡ true → position_or_len p (xs ++ ys) ≡ position_or_len p xs)
        → cond (not b) (1 + position_or_len p (xs ++ ys)) 0
        ≡ cond (not b) (1 + position_or_len p xs) 0
    go true e more = refl
    go false e more = ap (λ n. 1 + n) (more (sym (ap (λ b. b || list_any p xs) e) ∙ h))

pub map-same : {A B : Type 0} (P : A → Type 0) (f g : A → B) → ((x : A) → P x → f x ≡ g x)
    → (xs : List A) → AllByRecursion P xs → map f xs ≡ map g xs
map-same P f g e [] h = refl
map-same P f g e (x ∷ xs) h = ap₂ ◌∷◌ (e x h.0) (map-same P f g e xs h.1)

one-more-each : (a b : ℕ) → nat_eq a b ≡ nat_eq (1 + a) (1 + b)
one-more-each a b = grind arith

module _ {X : Type 0} (same : X → X → Bool) (is : IsSame same) where
  turned : (x y : X) → same y x ≡ same x y
  turned x y = grind arith

  abbrev all_keys : List X → List X → List X
  all_keys keys xs = fold (with_key true same) keys xs

  -- a key that is put there is there, at the place that it had, and stays there
  put-there : (keys : List X) (x : X) → list_any (same x) (insert_key same keys x) ≡ true
  put-there keys x = grind (arith, list_any-append, common_steps)

  put-place : (keys : List X) (x : X)
      → position_or_len (same x) (insert_key same keys x) ≡ position_or_len (same x) keys
  put-place keys x = grind (arith, place-push)

  -- what is there stays there, at its place
  record Stays (x : X) (keys more : List X) : Type 0 where
    there : list_any (same x) more ≡ true
    place : position_or_len (same x) more ≡ position_or_len (same x) keys

  stays : (x y : X) (keys : List X) → list_any (same x) keys ≡ true
      → Stays x keys (insert_key same keys y)
  stays x y keys h = grind (arith, list_any-append, place-behind)

  all-stay : (x : X) (xs keys : List X) → list_any (same x) keys ≡ true
      → Stays x keys (all_keys keys xs)
  all-stay x [] keys h = record { there = h; place = refl }
  all-stay x (y ∷ xs) keys h =
      let s = stays x y keys h in
      let r = all-stay x xs (insert_key same keys y) s.there in
      record { there = r.there; place = r.place ∙ s.place }

  -- The places of keys are those among all keys,
  pub places-all : (xs keys : List X)
      → places_from true same keys xs
      ≡ map (λ x. position_or_len (same x) (all_keys keys xs)) xs
  places-all [] keys = refl
  places-all (x ∷ xs) keys =
      ap₂ ◌∷◌ (sym ((all-stay x xs (insert_key same keys x) (put-there keys x)).place
      ∙ put-place keys x)) (places-all xs (insert_key same keys x))

  -- among which each of them is.
  all-there : (xs keys : List X)
      → AllByRecursion (λ x. list_any (same x) (all_keys keys xs) ≡ true) xs
  all-there [] keys = tt
  all-there (x ∷ xs) keys =
      grind (arith, all-stay, put-there, all-there xs (insert_key same keys x))

  -- one that is there has another's place where it is that
  same-place : (e x : X) (keys : List X) → list_any (same x) keys ≡ true
      → same e x ≡ nat_eq (position_or_len (same e) keys) (position_or_len (same x) keys)
  same-place e x [] h = absurd (cc)
  same-place e x (k ∷ keys) h = go (same e k) (same x k) refl refl (λ g. same-place e x keys g)
    where
      go : (a b : Bool) → same e k ≡ a → same x k ≡ b
          → (list_any (same x) keys ≡ true → same e x
          ≡ nat_eq (position_or_len (same e) keys) (position_or_len (same x) keys))
          → same e x ≡ nat_eq (cond (not a) (1 + position_or_len (same e) keys) 0)
          (cond (not b) (1 + position_or_len (same x) keys) 0)
      go true true f g more = ap (same e) (is.one x k g) ∙ f
      go true false f g more = ap (λ z. same z x) (is.one e k f) ∙ turned x k ∙ g
          ∙ sym (ne_eqb 0 (1 + position_or_len (same x) keys) (λ z. absurd (omega (arith, z))))
      go false true f g more = ap (same e) (is.one x k g) ∙ f
          ∙ sym (ne_eqb (1 + position_or_len (same e) keys) 0 (λ z. absurd (omega (arith, z))))
      go false false f g more = more (sym (ap (λ b. b || list_any (same x) keys) g) ∙ h)
          ∙ one-more-each (position_or_len (same e) keys) (position_or_len (same x) keys)

  -- Which of them are a key, by places.
  pub mask-places : (e : X) (xs : List X)
      → map (same e) xs
      ≡ map (nat_eq (position_or_len (same e) (all_keys [] xs))) (places_from true same [] xs)
  mask-places e xs =
      let keys = all_keys [] xs in
      let place : X → ℕ = λ x. position_or_len (same x) keys in
      map-same (λ x. list_any (same x) keys ≡ true) (same e) (λ x. nat_eq (place e) (place x))
      (λ x h. same-place e x keys h) xs (all-there xs [])
      ∙ sym (map-map (nat_eq (place e)) place xs)
      ∙ ap (map (nat_eq (place e))) (sym (places-all xs []))

-- keys that are looked up alone leave those that are there, with their places
pub places-found : {X : Type 0} (same : X → X → Bool) (xs keys : List X)
    → places_from false same keys xs ≡ map (λ x. position_or_len (same x) keys) xs
places-found same [] keys = refl
places-found same (x ∷ xs) keys = grind (arith, places-found same xs keys)

pub keys-found : {X : Type 0} (same : X → X → Bool) (xs keys : List X)
    → fold (with_key false same) keys xs ≡ keys
keys-found same [] keys = refl
keys-found same (x ∷ xs) keys = keys-found same xs keys

-- the place of a key is that of one of them, or behind them
pub places-within : {X : Type 0} (same : X → X → Bool) (keys xs : List X) (n : ℕ)
    → n ≡ suc (length keys)
    → AllByRecursion (λ p. p < n) (map (λ x. position_or_len (same x) keys) xs)
places-within same keys [] n e = tt
places-within same keys (x ∷ xs) n e =
    grind (arith, prefix_len-le-length, places-within same keys xs n e)

-- ---- the first that passes

mask-place : {A : Type 0} (p : A → Bool) (xs : List A)
    → position_or_len p xs ≡ position_or_len (λ b. b) (map p xs)
mask-place p [] = refl
mask-place p (x ∷ xs) = ap (λ n. cond (not (p x)) (1 + n) 0) (mask-place p xs)

-- two tests that say the same of each
pub same-mask : {A B : Type 0} (p : A → Bool) (q : B → Bool) (xs : List A) (ys : List B) (r : ℕ)
    → map p xs ≡ map q ys → position_or_len p (drop r xs) ≡ position_or_len q (drop r ys)
same-mask p q xs ys r e =
    mask-place p (drop r xs)
    ∙ ap (position_or_len (λ b. b)) (sym (drop-map p r xs) ∙ ap (drop r) e ∙ drop-map q r ys)
    ∙ sym (mask-place q (drop r ys))

filter-skip : {A : Type 0} (p : A → Bool) (xs : List A)
    → filter p xs ≡ filter p (drop (position_or_len p xs) xs)
filter-skip p [] = refl
filter-skip p (x ∷ xs) = go (p x) refl (filter-skip p xs)
  where
    go : (b : Bool) → p x ≡ b → filter p xs ≡ filter p (drop (position_or_len p xs) xs)
        → cond b (x ∷ filter p xs) (filter p xs)
        ≡ filter p (drop (cond (not b) (1 + position_or_len p xs) 0) (x ∷ xs))
    go true e more = ap (λ b. cond b (x ∷ filter p xs) (filter p xs)) (sym e)
    go false e more = more ∙ ap (λ n. filter p (drop n (x ∷ xs)))
        (let n : suc (position_or_len p xs) ≡ 1 + position_or_len p xs = omega arith in n)

-- what stands before the first that passes is left out
pub filter-from : {A : Type 0} (p : A → Bool) (xs : List A) (r n : ℕ)
    → n ≡ r + position_or_len p (drop r xs) → filter p (drop r xs) ≡ filter p (drop n xs)
filter-from p xs r n e = grind (arith, filter-skip, drop-drop)

pub first-passes : (p : Row → Bool) (xs : List Row) (r n : ℕ)
    → n ≡ r + position_or_len p (drop r xs) → n < length xs → p (get_or xs n []) ≡ true
first-passes p xs r n e lt = grind (arith, length-drop, get_or-drop, passes_at_first)
