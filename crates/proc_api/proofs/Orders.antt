-- Lists in order, each row against each later one.
use Rattle.proc_api.proofs.Imports.{All-contains, All-from_recursion, All-permutation, AllByRecursion, Bool, Contains, IsPermutation, IsPermutation-cons, IsPermutation-middle, IsPermutation-refl, IsPermutation-trans, IsSortedBy, IsStrictWeakOrder, List, Row, SortKey, [], arith, false, is_lt, ranks_by, recursion_from_All, refl, row_cmp, row_cmp_total, sorted_far, suc, true, ◌++◌, ◌+◌, ◌∷◌, ◌≡◌}

-- no later row comes before an earlier one
abbrev pub InOrder : (Row → Row → Bool) → List Row → Type 0
InOrder lt [] = Unit {0}
InOrder lt (x ∷ xs) = AllByRecursion (λ y. lt y x ≡ false) xs × InOrder lt xs

pub every-append : {X : Type 0} (P : X → Type 0) (xs ys : List X) → AllByRecursion P xs
    → AllByRecursion P ys → AllByRecursion P (xs ++ ys)
every-append P [] ys h k = k
every-append P (x ∷ xs) ys h k = (h.0, every-append P xs ys h.1 k)

pub every-front : {X : Type 0} (P : X → Type 0) (xs ys : List X) → AllByRecursion P (xs ++ ys)
    → AllByRecursion P xs
every-front P [] ys h = tt
every-front P (x ∷ xs) ys h = (h.0, every-front P xs ys h.1)

pub every-back : {X : Type 0} (P : X → Type 0) (xs ys : List X) → AllByRecursion P (xs ++ ys)
    → AllByRecursion P ys
every-back P [] ys h = h
every-back P (x ∷ xs) ys h = every-back P xs ys h.1

pub every-weaker : {X : Type 0} (P Q : X → Type 0) → ((x : X) → P x → Q x) → (xs : List X)
    → AllByRecursion P xs → AllByRecursion Q xs
every-weaker P Q f [] h = tt
every-weaker P Q f (x ∷ xs) h = (f x h.0, every-weaker P Q f xs h.1)

pub every-permuted : {X : Type 0} (P : X → Type 0) (xs ys : List X) → IsPermutation xs ys
    → AllByRecursion P xs → AllByRecursion P ys
every-permuted P xs ys p h =
    recursion_from_All P ys (All-permutation P xs ys p (All-from_recursion P xs h))

-- the same of each pair, whichever goes first
pub every-turned : {X Y : Type 0} (R : X → Y → Type 0) (xs : List X) (ys : List Y)
    → AllByRecursion (λ x. AllByRecursion (R x) ys) xs
    → AllByRecursion (λ y. AllByRecursion (λ x. R x y) xs) ys
every-turned R xs [] h = tt
every-turned R xs (y ∷ ys) h = (
  every-weaker (λ x. AllByRecursion (R x) (y ∷ ys)) (λ x. R x y) (λ x a. a.0) xs h,
  every-turned R xs ys (every-weaker (λ x. AllByRecursion (R x) (y ∷ ys))
      (λ x. AllByRecursion (R x) ys) (λ x a. a.1) xs h),
)

pub every-none : {X Y : Type 0} (R : Y → X → Type 0) (ys : List Y)
    → AllByRecursion (λ y. AllByRecursion (R y) []) ys
every-none R [] = tt
every-none R (y ∷ ys) = (tt, every-none R ys)

module _ (lt : Row → Row → Bool) (o : IsStrictWeakOrder lt) where
  pub order-joined : (xs ys : List Row) → InOrder lt xs → InOrder lt ys
      → AllByRecursion (λ y. AllByRecursion (λ x. lt y x ≡ false) xs) ys → InOrder lt (xs ++ ys)
  order-joined [] ys h k cross = k
  order-joined (x ∷ xs) ys h k cross = (
    every-append (λ y. lt y x ≡ false) xs ys h.0
        (every-weaker (λ y. AllByRecursion (λ z. lt y z ≡ false) (x ∷ xs)) (λ y. lt y x ≡ false)
        (λ y c. c.0) ys cross),
    order-joined xs ys h.1 k (every-weaker (λ y. AllByRecursion (λ z. lt y z ≡ false) (x ∷ xs))
        (λ y. AllByRecursion (λ z. lt y z ≡ false) xs) (λ y c. c.1) ys cross),
  )

  pub order-back : (xs ys : List Row) → InOrder lt (xs ++ ys) → InOrder lt ys
  order-back [] ys h = h
  order-back (x ∷ xs) ys h = order-back xs ys h.1

  pub order-front : (xs ys : List Row) → InOrder lt (xs ++ ys) → InOrder lt xs
  order-front [] ys h = tt
  order-front (x ∷ xs) ys h = (every-front (λ y. lt y x ≡ false) xs ys h.0, order-front xs ys h.1)

  -- what stands behind a front isn't before any of its rows
  pub order-cross : (xs ys : List Row) → InOrder lt (xs ++ ys)
      → AllByRecursion (λ x. AllByRecursion (λ y. lt y x ≡ false) ys) xs
  order-cross [] ys h = tt
  order-cross (x ∷ xs) ys h = (every-back (λ y. lt y x ≡ false) xs ys h.0, order-cross xs ys h.1)

  pub order-from_sorted : (xs : List Row) → IsSortedBy lt xs → InOrder lt xs
  order-from_sorted [] h = tt
  order-from_sorted (x ∷ xs) h = (
    recursion_from_All (λ y. lt y x ≡ false) xs (λ k d less. sorted_far lt o (x ∷ xs) h 0 (suc k) d
        (omega arith) (omega (arith, less))),
    order-from_sorted xs (λ k d low high. let next : suc k + 1 ≡ suc (k + 1) = omega arith in
        rw next at (h (suc k) d (omega arith) (omega (arith, high)))),
  )

  pub sorted-from_order : (xs : List Row) → InOrder lt xs → IsSortedBy lt xs
  sorted-from_order (x ∷ y ∷ xs) h (suc k) d low high =
      search (arith, sorted-from_order (y ∷ xs) h.1 k d (omega arith) (omega (arith, high)))
  sorted-from_order xs h k d low high = grind arith

  -- ---- an order of any rows

  -- an order of these rows
  abbrev Orders : List Row → Type 0
  Orders xs = (ys : List Row) × IsPermutation xs ys × InOrder lt ys

  insertion : (x : Row) (ys : List Row) → InOrder lt ys → Orders (x ∷ ys)
  insertion x [] h = (x ∷ [], IsPermutation-refl _, (tt, tt))
  insertion x (y ∷ ys) h = go (lt y x) refl (insertion x ys h.1)
    where
      go : (b : Bool) → lt y x ≡ b → Orders (x ∷ ys) → Orders (x ∷ y ∷ ys)
      go true e more = (
        y ∷ more.0,
        IsPermutation-trans _ _ _ (IsPermutation-middle (x ∷ []) y ys)
            (IsPermutation-cons y _ _ more.1),
        (every-permuted _ (x ∷ ys) more.0 more.1 (o.one_way y x e, h.0), more.2),
      )
      go false e more = (
        x ∷ y ∷ ys,
        IsPermutation-refl _,
        ((e, every-weaker _ _ (λ z k. o.chain z y x k e) ys h.0), h),
      )

  order-of : (xs : List Row) → Orders xs
  order-of [] = ([], IsPermutation-refl [], tt)
  order-of (x ∷ xs) =
      let rest = order-of xs in
      let all = insertion x rest.0 rest.2 in
      (all.0, IsPermutation-trans _ _ _ (IsPermutation-cons x _ _ rest.1) all.1, all.2)

  pub ordered : List Row → List Row
  ordered xs = (order-of xs).0

  pub ordered-none : ordered [] ≡ []
  unfolding ordered order-of
  ordered-none = refl

  pub ordered-same : (xs : List Row) → IsPermutation xs (ordered xs)
  unfolding ordered
  ordered-same xs = (order-of xs).1

  pub ordered-order : (xs : List Row) → InOrder lt (ordered xs)
  unfolding ordered
  ordered-order xs = (order-of xs).2

pub every-contains : {X : Type 0} (P : X → Type 0) (xs : List X) (x : X) → AllByRecursion P xs
    → Contains xs x → P x
every-contains P xs x h c = All-contains P xs x (All-from_recursion P xs h) c

pub rows-ordered : (keys : List SortKey) → IsStrictWeakOrder (λ a b. is_lt (row_cmp keys a b))
rows-ordered keys = ranks_by (row_cmp_total keys) (λ (r : Row). r)
