-- Places in lists, sets of edges as lists, and sights in lists.
use Rattle.core_laws.proofs.Imports.{AreEdgesOnce, AreOnce-append, AreOnce-head, AreOnce-tail, Bool, Flags, List, Sight, [], adding, arith, both_ways, cond_both, edges_of, eq-eqb, eqb, false, filter, flags_at, get_or, has, knows, length, list_any_at, ne_eqb, no_flags, refl, seeing, suc, true, ℕ, ◌&&◌, ◌++◌, ◌<◌, ◌||◌, ◌∷◌, ◌≡◌, ◌≢◌}

-- ---- sets

-- what is kept was there and passes the test
pub has-filter : (t : ℕ → Bool) (l : List ℕ) (d : ℕ) → has d (filter t l) ≡ (t d && has d l)
has-filter t [] d = grind arith
has-filter t (x ∷ xs) d = grind (arith, has-filter t xs d)

-- what a list has with one more at its end
pub has-last : (e d : ℕ) (l : List ℕ) → has d (l ++ e ∷ []) ≡ (has d l || eqb e d)
has-last e d [] = grind arith
has-last e d (x ∷ xs) = grind (arith, has-last e d xs)

has-none : (e : ℕ) (l : List ℕ) → ((k : ℕ) → k < length l → get_or l k 0 ≢ e) → has e l ≡ false
has-none e [] h = refl
has-none e (x ∷ xs) h = let here = h 0 (omega arith) in
    grind (arith, here, ne_eqb x e, has-none e xs (λ k lt. h (suc k) (omega (arith, lt))))

-- where no edge is named
pub once-none : AreEdgesOnce []
unfolding AreEdgesOnce
once-none j k lt = absurd (omega (arith, lt))

-- the first of numbers that stand once isn't among the others
pub once-head : (e : ℕ) (l : List ℕ) → AreEdgesOnce (e ∷ l) → has e l ≡ false
unfolding AreEdgesOnce
once-head e l h = has-none e l (AreOnce-head e l h)

-- those behind the first are named once too
pub once-tail : (e : ℕ) (l : List ℕ) → AreEdgesOnce (e ∷ l) → AreEdgesOnce l
unfolding AreEdgesOnce
once-tail e l h = AreOnce-tail e l h

-- numbers that stand once, and one more that isn't among them
pub once-cons : (e : ℕ) (l : List ℕ) → has e l ≡ false → AreEdgesOnce l → AreEdgesOnce (e ∷ l)
unfolding AreEdgesOnce
once-cons e l none h = grind (arith, AreOnce-append, both_ways, list_any_at, eq-eqb)

-- the same with one more at the end
pub once-last : (e : ℕ) (l : List ℕ) → has e l ≡ false → AreEdgesOnce l → AreEdgesOnce (l ++ e ∷ [])
once-last e [] none h = once-cons e [] none h
once-last e (x ∷ xs) none h = once-cons x (xs ++ e ∷ [])
    (let first = once-head x xs h in grind (arith, first, has-last e x xs))
    (once-last e xs (grind arith) (once-tail x xs h))

-- each is kept at most once
pub once-filter : (t : ℕ → Bool) (l : List ℕ) → AreEdgesOnce l → AreEdgesOnce (filter t l)
once-filter t [] h = h
once-filter t (x ∷ xs) h = let left = once-filter t xs (once-tail x xs h) in
    let first = once-head x xs h in cond_both (t x) _ _ (λ l. AreEdgesOnce l)
    (λ _. once-cons x (filter t xs) (grind (arith, first, has-filter t xs x)) left) (λ _. left)

-- what a set has with one more
pub has-adding : (e d : ℕ) (l : List ℕ) → has d (adding e l) ≡ (has d l || eqb e d)
has-adding e d l = grind (arith, has-last e d l)

-- a set with one more names each at most once
pub once-adding : (e : ℕ) (l : List ℕ) → AreEdgesOnce l → AreEdgesOnce (adding e l)
once-adding e l h = grind (arith, cond_both, once-last)

-- ---- sights

-- the edges seen stay
pub edges-seeing : (e : ℕ) (f : Flags) (l : List Sight) → edges_of (seeing e f l) ≡ edges_of l
edges-seeing e f [] = refl
edges-seeing e f (g ∷ gs) = grind (arith, edges-seeing e f gs)

-- the edge is seen as f
pub seeing-here : (e : ℕ) (f : Flags) (l : List Sight) → knows e l ≡ true
    → flags_at e (seeing e f l) ≡ f
seeing-here e f [] h = grind arith
seeing-here e f (g ∷ gs) h = grind (arith, seeing-here e f gs)

-- every other edge is seen as before
pub seeing-other : (e d : ℕ) (f : Flags) (l : List Sight) → d ≢ e
    → flags_at d (seeing e f l) ≡ flags_at d l
seeing-other e d f [] ne = refl
seeing-other e d f (g ∷ gs) ne = grind (arith, seeing-other e d f gs)

-- an edge that isn't known is seen with no flag
pub flags-unknown : (e : ℕ) (l : List Sight) → knows e l ≡ false → flags_at e l ≡ no_flags
flags-unknown e [] h = refl
flags-unknown e (g ∷ gs) h = grind (arith, flags-unknown e gs)

-- an edge that was learned is seen with no flag, and every other one as before
pub flags-last : (e d : ℕ) (l : List Sight) → knows e l ≡ false
    → flags_at d (l ++ record { edge = e; flags = no_flags } ∷ []) ≡ flags_at d l
flags-last e d [] h = grind arith
flags-last e d (g ∷ gs) h = grind (arith, flags-last e d gs)
