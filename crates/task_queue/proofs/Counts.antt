-- How often numbers stand in lists, and sums over lists.
use Rattle.task_queue.proofs.Imports.{Bool, List, [], ap, append_assoc, arith, cond, dec_le, dite, drop, drop_at, eq-eqb, eqb, get_elem?, get_or, hit, le-ltb, length, lt-ltb, lt_of_not-le, ne_eqb, once_below, refl, set, some, some-injective, some-ne-none, subst, suc, sym, take, times, total_over, without_each, zero, ℕ, ℕ_discrete, ◌++◌, ◌+◌, ◌<◌, ◌∙◌, ◌∷◌, ◌≡◌, ◌≢◌, ◌≤◌}

if_same : {A : Type 0} (a b : ℕ) (x y : A) → a ≡ b → cond (eqb a b) x y ≡ x
if_same a b x y e = ap (λ (t : Bool). cond t x y) (eq-eqb a b e)

if_other : {A : Type 0} (a b : ℕ) (x y : A) → a ≢ b → cond (eqb a b) x y ≡ y
if_other a b x y e = ap (λ (t : Bool). cond t x y) (ne_eqb a b e)

-- a number hits itself
pub hit_same : (n : ℕ) → hit n n ≡ 1
hit_same n = if_same n n 1 0 refl

-- a number hits no other
pub hit_other : (n x : ℕ) → n ≢ x → hit n x ≡ 0
hit_other n x e = if_other n x 1 0 e

-- a number stands in two lists as often as in both
pub times-append : (n : ℕ) (xs ys : List ℕ) → times n (xs ++ ys) ≡ times n xs + times n ys
times-append n [] ys = omega arith
times-append n (x ∷ xs) ys = let h = times-append n xs ys in omega arith

-- a list in which no number stands is empty
pub nil_from_times : (xs : List ℕ) → ((n : ℕ) → times n xs ≡ 0) → xs ≡ []
nil_from_times [] none = refl
nil_from_times (x ∷ xs) none = absurd (let a = none x in let b = hit_same x in omega arith)

without_same : (n x : ℕ) (xs : List ℕ) → n ≡ x → without_each n (x ∷ xs) ≡ without_each n xs
without_same n x xs e = if_same n x (without_each n xs) (x ∷ without_each n xs) e

without_other : (n x : ℕ) (xs : List ℕ) → n ≢ x → without_each n (x ∷ xs) ≡ x ∷ without_each n xs
without_other n x xs e = if_other n x (without_each n xs) (x ∷ without_each n xs) e

-- what is taken out of a list doesn't stand in it
pub times-without : (n : ℕ) (xs : List ℕ) → times n (without_each n xs) ≡ 0
times-without n [] = refl
times-without n (x ∷ xs) = let t = times-without n xs in dite (ℕ_discrete n x)
    (λ same. ap (times n) (without_same n x xs same) ∙ t)
    (λ other. let h = hit_other n x other in
    ap (times n) (without_other n x xs other) ∙ omega arith)

-- the others stand in it as before
pub times-without-other : (m n : ℕ) (xs : List ℕ) → m ≢ n → times m (without_each n xs) ≡ times m xs
times-without-other m n [] e = refl
times-without-other m n (x ∷ xs) e = let t = times-without-other m n xs e in dite (ℕ_discrete n x)
    (λ same. let h = hit_other m x (λ q. e (q ∙ sym same)) in
    ap (times m) (without_same n x xs same) ∙ omega arith)
    (λ other. ap (times m) (without_other n x xs other) ∙ omega arith)

length-without : (n : ℕ) (xs : List ℕ) → length xs ≡ length (without_each n xs) + times n xs
length-without n [] = omega arith
length-without n (x ∷ xs) = let t = length-without n xs in dite (ℕ_discrete n x)
    (λ same. let h : hit n x ≡ 1 = if_same n x 1 0 same in
    let l = ap length (without_same n x xs same) in omega arith)
    (λ other. let h = hit_other n x other in
    let l = ap length (without_other n x xs other) in omega arith)

-- each number stands in the list once at most, and only where it is below c
abbrev pub AreOnceBelow : ℕ → List ℕ → Type 0
AreOnceBelow c xs = (n : ℕ) → times n xs ≤ once_below n c

below_once : (n c : ℕ) → n < c → once_below n c ≡ 1
below_once n c h = ap (λ (t : Bool). cond t 1 0) (lt-ltb n c h)

above_once : (n c : ℕ) → c ≤ n → once_below n c ≡ 0
above_once n c h = ap (λ (t : Bool). cond t 1 0) (le-ltb n c h)

-- such a list has no more than c numbers
pub length-once : (c : ℕ) (xs : List ℕ) → AreOnceBelow c xs → length xs ≤ c
length-once zero [] once = omega arith
length-once zero (x ∷ xs) once =
    absurd (let h = hit_same x in let z = once x in let a = above_once x 0 (omega arith) in
    omega arith)
length-once (suc c) xs once =
    let rest : length (without_each c xs) ≤ c =
    length-once c (without_each c xs) (λ n. dite (ℕ_discrete n c)
    (λ same. subst (λ z. times z (without_each c xs) ≤ once_below z c) (sym same)
    (let t = times-without c xs in omega arith))
    (λ other. let t = times-without-other n c xs other in let k = once n in dite (dec_le c n)
    (λ more. let a = above_once n (suc c) (omega arith) in omega arith)
    (λ less. let a = below_once n c (lt_of_not-le less) in
    let b = below_once n (suc c) (let l = lt_of_not-le less in omega arith) in omega arith))) in
    let l = length-without c xs in let k = once c in let b = below_once c (suc c) (omega arith) in
    omega arith

-- one more number below c, which didn't stand in the list
pub once-cons : (c n : ℕ) (xs : List ℕ) → AreOnceBelow c xs → n < c → times n xs ≡ 0
    → AreOnceBelow c (n ∷ xs)
once-cons c n xs once less none m = dite (ℕ_discrete m n)
    (λ same. subst (λ z. times z (n ∷ xs) ≤ once_below z c) (sym same)
    (let a = hit_same n in let b = below_once n c less in omega arith))
    (λ other. let a = hit_other m n other in let b = once m in omega arith)

-- a number of the list is below c
pub below_from_once : (c n : ℕ) (xs : List ℕ) → AreOnceBelow c xs → times n xs ≡ 1 → n < c
below_from_once c n xs once h = dite (dec_le c n)
    (λ more. absurd (let a = above_once n c more in let b = once n in omega arith))
    (λ less. lt_of_not-le less)

-- n leaves a list, and the front of another with the same numbers
pub times-both_without : (n : ℕ) (view all ns : List ℕ) → ((m : ℕ) → times m view ≡ times m all)
    → all ≡ n ∷ ns → times n all ≡ 1 → (m : ℕ) → times m (without_each n view) ≡ times m ns
times-both_without n view all ns same front one m = let f = ap (times n) front in
    let h = hit_same n in dite (ℕ_discrete m n)
    (λ e. subst (λ z. times z (without_each n view) ≡ times z ns) (sym e)
    (let b = times-without n view in omega arith))
    (λ e. let a = times-without-other m n view e in let b = same m in let g = ap (times m) front in
    let k = hit_other m n e in omega arith)

-- n, which stood in neither list, joins one and leaves it
pub times-taken_and_left : (n : ℕ) (view all : List ℕ) → ((m : ℕ) → times m view ≡ times m all)
    → times n all ≡ 0 → (m : ℕ) → times m (without_each n (n ∷ view)) ≡ times m all
times-taken_and_left n view all same none = times-both_without n (n ∷ view) (n ∷ all) all
    (λ m. let k = same m in omega arith) refl (let h = hit_same n in omega arith)

-- a number that joins an empty list stands there once
pub times-single : (n : ℕ) (old now : List ℕ) → now ≡ n ∷ old → old ≡ [] → times n now ≡ 1
times-single n old now is bare =
    let a = ap (times n) is in let b = ap (times n) bare in let h = hit_same n in omega arith

-- a number that alone stood in a list and was let go leaves none
pub nil_from_let_go : (n : ℕ) (old now : List ℕ) → old ≡ n ∷ [] → times n now ≡ 0
    → ((m : ℕ) → m ≢ n → times m now ≡ times m old) → now ≡ []
nil_from_let_go n old now is gone same = nil_from_times now (λ m. dite (ℕ_discrete m n)
    (λ e. ap (λ z. times z now) e ∙ gone)
    (λ e. let a = same m e in let b = ap (times m) is in let h = hit_other m n e in omega arith))

-- ---- a list that is rotated

-- each place below the length has a number
pub at_below : {A : Type 0} (xs : List A) (i : ℕ) → i < length xs
    → (a : A) × (get_elem? xs i ≡ some a)
at_below [] i h = absurd (omega arith)
at_below (x ∷ xs) zero h = (x, refl)
at_below (x ∷ xs) (suc i) h = at_below xs i (omega arith)

take_next : (xs : List ℕ) (i a : ℕ) → get_elem? xs i ≡ some a
    → take (suc i) xs ≡ take i xs ++ a ∷ []
take_next [] i a h = absurd (some-ne-none a (sym h))
take_next (x ∷ xs) zero a h = ap (λ (z : ℕ). z ∷ []) (some-injective x a h)
take_next (x ∷ xs) (suc i) a h = ap (λ (zs : List ℕ). x ∷ zs) (take_next xs i a h)

-- a list that was rotated i times begins with its number at place i
pub front-rotated : (xs now : List ℕ) (i a : ℕ) → now ≡ drop i xs ++ take i xs
    → get_elem? xs i ≡ some a → now ≡ a ∷ (drop (suc i) xs ++ take i xs)
front-rotated xs now i a is at = is ∙ ap (λ zs. zs ++ take i xs) (drop_at xs i a at)

-- and once more
pub rotated-next : (xs now : List ℕ) (i a : ℕ) → get_elem? xs i ≡ some a
    → now ≡ (drop (suc i) xs ++ take i xs) ++ a ∷ [] → now ≡ drop (i + 1) xs ++ take (i + 1) xs
rotated-next xs now i a at is = let e : suc i ≡ i + 1 = omega arith in
    subst (λ z. now ≡ drop z xs ++ take z xs) e (is
    ∙ append_assoc (drop (suc i) xs) (take i xs) (a ∷ [])
    ∙ ap (λ zs. drop (suc i) xs ++ zs) (sym (take_next xs i a at)))

-- a number that doesn't stand in the first i nor at place i doesn't stand in one more
pub times-take_next : (n : ℕ) (xs : List ℕ) (i a : ℕ) → get_elem? xs i ≡ some a → n ≢ a
    → times n (take i xs) ≡ 0 → times n (take (i + 1) xs) ≡ 0
times-take_next n xs i a at other none =
    let t = times-append n (take i xs) (a ∷ []) in let h = hit_other n a other in
    let q = ap (times n) (take_next xs i a at) in let e : suc i ≡ i + 1 = omega arith in
    subst (λ z. times n (take z xs) ≡ 0) e (omega arith)

-- ---- sums

module _ {V : Type 0} where
  -- the sum where one element changes
  pub total-set : (f : V → ℕ) (vs : List V) (j : ℕ) (v w : V) → get_elem? vs j ≡ some v
      → total_over f (set vs j w) + f v ≡ total_over f vs + f w
  total-set f [] j v w h = absurd (some-ne-none v (sym h))
  total-set f (x ∷ xs) zero v w h = let e = ap f (some-injective x v h) in omega arith
  total-set f (x ∷ xs) (suc j) v w h = let t = total-set f xs j v w h in omega arith

  -- the sum where one element comes last
  pub total-push : (f : V → ℕ) (vs : List V) (v : V) → total_over f (vs ++ v ∷ [])
      ≡ total_over f vs + f v
  total-push f [] v = omega arith
  total-push f (x ∷ xs) v = let t = total-push f xs v in omega arith

  -- one element alone gives no more than all
  pub total-ge : (f : V → ℕ) (vs : List V) (j : ℕ) (v : V) → get_elem? vs j ≡ some v
      → f v ≤ total_over f vs
  total-ge f [] j v h = absurd (some-ne-none v (sym h))
  total-ge f (x ∷ xs) zero v h = let e = ap f (some-injective x v h) in omega arith
  total-ge f (x ∷ xs) (suc j) v h = let t = total-ge f xs j v h in omega arith

  -- lists in which f gives the same at each place have one sum
  pub total-same : (f : V → ℕ) (xs ys : List V) → length ys ≡ length xs
      → ((i : ℕ) (d : V) → i < length xs → f (get_or ys i d) ≡ f (get_or xs i d))
      → total_over f ys ≡ total_over f xs
  total-same f [] [] many same = refl
  total-same f [] (y ∷ ys) many same = absurd (omega arith)
  total-same f (x ∷ xs) [] many same = absurd (omega arith)
  total-same f (x ∷ xs) (y ∷ ys) many same =
      let t = total-same f xs ys (omega arith) (λ i d h. same (suc i) d (omega arith)) in
      let a = same 0 x (omega arith) in omega arith

  total-zero : (f g : V → ℕ) → ((v : V) → f v ≡ 0 → g v ≡ 0) → (vs : List V) → total_over f vs ≡ 0
      → total_over g vs ≡ 0
  total-zero f g only [] h = refl
  total-zero f g only (x ∷ xs) h =
      let a = only x (omega arith) in let t = total-zero f g only xs (omega arith) in omega arith

  -- where one element alone gives as much by f as all, it does by each g that is 0 where f is
  pub total-single : (f g : V → ℕ) → ((v : V) → f v ≡ 0 → g v ≡ 0) → (vs : List V) (j : ℕ) (v : V)
      → get_elem? vs j ≡ some v → total_over f vs ≡ f v → total_over g vs ≡ g v
  total-single f g only [] j v at h = absurd (some-ne-none v (sym at))
  total-single f g only (x ∷ xs) zero v at h =
      let a = ap f (some-injective x v at) in let b = ap g (some-injective x v at) in
      let t = total-zero f g only xs (omega arith) in omega arith
  total-single f g only (x ∷ xs) (suc j) v at h =
      let m = total-ge f xs j v at in let a = only x (omega arith) in
      let t = total-single f g only xs j v at (omega arith) in omega arith
