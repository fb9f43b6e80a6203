-- The ports of nodes in order: each once, without a gap, and as many of each node as it has.
use Rattle.std.proofs.Common.{Bool, List, [], ap, append_assoc, arith, cond, false, get_or, inr, length, map, refl, subst, suc, sum, sum_by, sym, true, zero, ℕ, ◌&&◌, ◌++◌, ◌+◌, ◌<◌, ◌==◌, ◌∙◌, ◌∷◌, ◌≡◌, ◌≤◌, ◌⊎◌}
use Rattle.plan_laws.proofs.Imports.{All, All-append, All-cons, All-from_recursion, All-nil, All-weaker, AllByRecursion, Contains, Contains-append_left, Contains-append_right, IsDistinct, IsDistinct-cons, and_from, and_parts, apart_from_distinct, append-nil, both_ways, cases_lt, eq-eqb, eqb-true, false_from_ne_true, map-map, recursion_from_All, sum-map, sum_by-append, sum_by-cons, NodePort, ports_from, ports_of, nat_tests}

-- ---- one more node

pub ports_from-push : (n : ℕ) (ks : List ℕ) (k : ℕ) → ports_from n (ks ++ k ∷ []) ≡ ports_from n ks
    ++ ports_of (n + length ks) 0 k
ports_from-push n [] k = search (arith, append-nil)
ports_from-push n (j ∷ ks) k =
    search (arith, append_assoc, ports_from-push (suc n) ks k)

-- ---- which ports there are

-- the port is one of the ports of the nodes, the first of which is node n
pub record IsPortFrom (n : ℕ) (ks : List ℕ) (p : NodePort) : Type 0 where
  pub place : ℕ
  pub is : n + place ≡ p.node
  pub in_range : place < length ks
  pub below : p.port < get_or ks place 0

ports_of-all : (P : NodePort → Type 0) (n o k : ℕ)
    → ((i : ℕ) → i < o + k → P (record { node = n; port = i })) → All P (ports_of n o k)
ports_of-all P n o zero h = All-nil P
ports_of-all P n o (suc k) h = All-cons P _ _ (h o (omega arith))
    (ports_of-all P n (suc o) k (λ i lt. h i (omega (arith, lt))))

pub ports-from : (n : ℕ) (ks : List ℕ) → All (IsPortFrom n ks) (ports_from n ks)
ports-from n [] = All-nil (IsPortFrom n [])
ports-from n (k ∷ ks) = All-append (IsPortFrom n (k ∷ ks)) _ _
    (ports_of-all (IsPortFrom n (k ∷ ks)) n 0 k
    (λ i lt. record {
      place = 0;
      is = omega arith;
      in_range = omega arith;
      below = omega (arith, lt);
    }))
    (All-weaker (IsPortFrom (suc n) ks) (IsPortFrom n (k ∷ ks))
    (λ p h. let at : suc n + h.place ≡ p.node = h.is in let lt : h.place < length ks = h.in_range in
    record {
      place = suc h.place;
      is = omega (arith, at);
      in_range = omega (arith, lt);
      below = h.below;
    })
    (ports_from (suc n) ks) (ports-from (suc n) ks))

ports_of-contains : (n o k i : ℕ) → o ≤ i → i < o + k
    → Contains (ports_of n o k) (record { node = n; port = i })
ports_of-contains n o zero i le lt = absurd (omega (arith, le, lt))
ports_of-contains n o (suc k) i le lt = grind (
  arith,
  cases_lt o i,
  Contains-append_right (record { node = n; port = o } ∷ []) (ports_of n (suc o) k),
  ports_of-contains n (suc o) k i,
)

pub ports-contain : (n m j i : ℕ) (ks : List ℕ) → n + m ≡ j → i < get_or ks m 0
    → Contains (ports_from n ks) (record { node = j; port = i })
ports-contain n m j i [] e lt = absurd (omega (arith, lt))
ports-contain n zero j i (k ∷ ks) e lt =
    let same : n ≡ j = omega (arith, e) in
    Contains-append_left (ports_of n 0 k) (ports_from (suc n) ks) _
    (subst (λ m. Contains (ports_of n 0 k) (record { node = m; port = i })) same
    (ports_of-contains n 0 k i (omega arith) (omega (arith, lt))))
ports-contain n (suc m) j i (k ∷ ks) e lt = Contains-append_right (ports_of n 0 k)
    (ports_from (suc n) ks) _ (ports-contain (suc n) m j i ks (omega (arith, e)) lt)

-- ---- each once

abbrev pub same_port : NodePort → NodePort → Bool
same_port p q = (p.node == q.node) && (p.port == q.port)

pub eqb-flips : (a b : ℕ) → (a == b) ≡ (b == a)
eqb-flips a b = grind (arith, nat_tests)

pub same_port-from : (p q : NodePort) → p.node ≡ q.node → p.port ≡ q.port → same_port p q ≡ true
same_port-from p q n o = and_from _ _ (eq-eqb _ _ n) (eq-eqb _ _ o)

node-differs : (p q : NodePort) → p.node < q.node → same_port p q ≡ false
node-differs p q lt = search (arith, false_from_ne_true, eqb-true, and_parts)

later-differ : (n o m k : ℕ) → o < m
    → All (λ q. same_port (record { node = n; port = o }) q ≡ false) (ports_of n m k)
later-differ n o m zero lt = All-nil _
later-differ n o m (suc k) lt =
    grind (arith, false_from_ne_true, eqb-true, and_parts, later-differ n o (suc m) k)

distinct-of : (n o k : ℕ) → IsDistinct same_port (ports_of n o k)
unfolding IsDistinct
distinct-of n o zero = tt
distinct-of n o (suc k) =
    search (arith, IsDistinct-cons, recursion_from_All, later-differ, distinct-of n (suc o) k)

joined-distinct : (xs ys : List NodePort) → IsDistinct same_port xs → IsDistinct same_port ys
    → AllByRecursion (λ x. All (λ y. same_port x y ≡ false) ys) xs
    → IsDistinct same_port (xs ++ ys)
unfolding IsDistinct
joined-distinct [] ys d e h = e
joined-distinct (x ∷ xs) ys d e h = IsDistinct-cons same_port x (xs ++ ys)
    (recursion_from_All _ _
    (All-append (λ y. same_port x y ≡ false) xs ys (All-from_recursion _ _ d.0) h.0))
    (joined-distinct xs ys d.1 e h.1)

pub ports-distinct : (n : ℕ) (ks : List ℕ) → IsDistinct same_port (ports_from n ks)
unfolding IsDistinct
ports-distinct n [] = tt
ports-distinct n (k ∷ ks) = joined-distinct (ports_of n 0 k) (ports_from (suc n) ks)
    (distinct-of n 0 k) (ports-distinct (suc n) ks)
    (recursion_from_All _ _
    (ports_of-all (λ x. All (λ y. same_port x y ≡ false) (ports_from (suc n) ks)) n 0 k
    (λ i lt. All-weaker (IsPortFrom (suc n) ks) (λ y. same_port (record { node = n; port = i }) y
    ≡ false)
    (λ q h. let at : suc n + h.place ≡ q.node = h.is in
    node-differs (record { node = n; port = i }) q (omega (arith, at))) _
    (ports-from (suc n) ks))))

pub same-place : (ps : List NodePort) (e f : ℕ) (d : NodePort) → IsDistinct same_port ps
    → e < length ps → f < length ps
    → (get_or ps e d).node ≡ (get_or ps f d).node → (get_or ps e d).port ≡ (get_or ps f d).port
    → e ≡ f
same-place ps e f d distinct le lf n o = grind (
  arith,
  cases_lt e f,
  cases_lt f e,
  apart_from_distinct same_port ps e f d distinct,
  apart_from_distinct same_port ps f e d distinct,
  same_port-from,
  both_ways,
)

-- ---- how many

pub sum_by-map : {X Y : Type 0} (g : Y → ℕ) (f : X → Y) (xs : List X)
    → sum_by g (map f xs) ≡ sum_by (λ x. g (f x)) xs
sum_by-map g f xs = sym (sum-map g (map f xs)) ∙ ap sum (map-map g f xs)
    ∙ sum-map (λ x. g (f x)) xs

abbrev one_if : Bool → ℕ
one_if b = cond b 1 0

abbrev pub at_node : ℕ → NodePort → ℕ
at_node n p = one_if (p.node == n)

count-of : (n o k : ℕ) → sum_by (at_node n) (ports_of n o k) ≡ k
count-of n o zero = refl
count-of n o (suc k) = grind (
  arith,
  sum_by-cons (at_node n) (record { node = n; port = o }) (ports_of n (suc o) k),
  eq-eqb n n refl,
  count-of n (suc o) k,
)

count-none : (ps : List NodePort) (n : ℕ)
    → AllByRecursion (λ (p : NodePort). n < p.node ⊎ p.node < n) ps → sum_by (at_node n) ps ≡ 0
count-none [] n h = refl
count-none (p ∷ ps) n h =
    search (arith, false_from_ne_true, eqb-true, sum_by-cons, count-none ps n h.1)

none-of : (n o k j : ℕ) → n < j → sum_by (at_node j) (ports_of n o k) ≡ 0
none-of n o k j lt = count-none (ports_of n o k) j
    (recursion_from_All _ _ (ports_of-all (λ (p : NodePort). j < p.node ⊎ p.node < j) n o k
    (λ i h. inr lt)))

none-later : (n j : ℕ) (ks : List ℕ) → j < n → sum_by (at_node j) (ports_from n ks) ≡ 0
none-later n j ks lt = grind (arith, count-none, recursion_from_All, ports-from n ks)

-- each node has as many ports as it is given
pub count-at : (n m j : ℕ) (ks : List ℕ) → n + m ≡ j → sum_by (at_node j) (ports_from n ks) ≡ get_or
    ks m 0
count-at n m j [] e = refl
count-at n zero j (k ∷ ks) e = grind (
  arith,
  count-of n 0 k,
  none-later (suc n) j ks,
  sum_by-append (at_node j) (ports_of n 0 k) (ports_from (suc n) ks),
)
count-at n (suc m) j (k ∷ ks) e =
    search (arith, none-of, sum_by-append, count-at (suc n) m j ks (omega (arith, e)))
