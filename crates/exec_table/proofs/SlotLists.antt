-- Lists of slots as they turn, and how long a list without repetition can be.
use Rattle.exec_table.proofs.Imports.{AreEdgesOnce, once-tail, Chunk, List, Option, Slots, Some, [], ap, append_assoc, arith, cases_eq, cond, drop, drop_more, edges_out, eqb, false, filter, get_or, has, has-filter, length, map-append, not, once-filter, once-head, once-last, refl, slot_in, suc, take, take_more, true, turned, zero, ℕ, ◌++◌, ◌+◌, ◌<◌, ◌∙◌, ◌∷◌, ◌≡◌, ◌≤◌}

-- ---- how long a list is

without-none : (n : ℕ) (l : List ℕ) → has n l ≡ false
    → length (filter (λ d. not (eqb d n)) l) ≡ length l
without-none n [] h = refl
without-none n (x ∷ xs) h = grind (arith, without-none n xs)

without-one : (n : ℕ) (l : List ℕ) → AreEdgesOnce l
    → length l ≤ length (filter (λ d. not (eqb d n)) l) + 1
without-one n [] h = omega arith
without-one n (x ∷ xs) h = let first = once-head x xs h in
    let left = without-one n xs (once-tail x xs h) in
    grind (arith, cases_eq, without-none, first, left)

-- numbers below n, each once, are at most n
pub few-below : (n : ℕ) (l : List ℕ) → AreEdgesOnce l → ((e : ℕ) → has e l ≡ true → e < n)
    → length l ≤ n
few-below zero [] h less = omega arith
few-below zero (x ∷ xs) h less = let z = less x (grind arith) in absurd (omega arith)
few-below (suc n) l h less = let t = λ (d : ℕ). not (eqb d n) in
    let z = few-below n (filter t l) (once-filter t l h)
    (λ e q. grind (arith, has-filter t l e, less e)) in
    let y = without-one n l h in omega (arith, z, y)

-- ---- turns

pub turned-edges : (l : Slots) (n : ℕ) (ns : List ℕ) → edges_out l ≡ n ∷ ns
    → edges_out (turned l) ≡ ns ++ n ∷ []
turned-edges [] n ns h = absurd (let z : [] ≡ n ∷ ns = h in cc)
turned-edges (y ∷ ys) n ns h = grind (arith, map-append)

pub turned-once : (n : ℕ) (ns : List ℕ) → AreEdgesOnce (n ∷ ns) → AreEdgesOnce (ns ++ n ∷ [])
turned-once n ns h = once-last n ns (once-head n ns h) (once-tail n ns h)

last-slot : (d : ℕ) (y : ℕ × Option Chunk) (ys : Slots) → has y.0 (edges_out ys) ≡ false
    → slot_in d (ys ++ y ∷ []) ≡ cond (eqb y.0 d) (Some y.1) (slot_in d ys)
last-slot d y [] h = refl
last-slot d y (z ∷ zs) h = grind (arith, last-slot d y zs)

pub turned-slots : (l : Slots) (d : ℕ) → AreEdgesOnce (edges_out l)
    → slot_in d (turned l) ≡ slot_in d l
turned-slots [] d h = refl
turned-slots (y ∷ ys) d h = last-slot d y ys (once-head y.0 (edges_out ys) h)

-- ---- a list rotated until a number stands first

pub front-rotated : (l now : List ℕ) (i : ℕ) → now ≡ drop i l ++ take i l → i < length l
    → now ≡ get_or l i 0 ∷ (drop (i + 1) l ++ take i l)
front-rotated l now i is less = is ∙ ap (λ z. z ++ take i l) (drop_more l i 0 less)

pub rotated-next : (l now : List ℕ) (i : ℕ)
    → now ≡ (drop (i + 1) l ++ take i l) ++ get_or l i 0 ∷ [] → i < length l
    → now ≡ drop (i + 1) l ++ take (i + 1) l
rotated-next l now i is less = grind (arith, append_assoc, take_more l i 0 less)

-- the first slot is that of the edge that the data name first
pub first-slot : (l : Slots) (e : ℕ) (ns : List ℕ) → edges_out l ≡ e ∷ ns
    → (v : Option Chunk) × (ys : Slots) × (l ≡ (e, v) ∷ ys) × (edges_out ys ≡ ns)
first-slot [] e ns h = absurd (let z : [] ≡ e ∷ ns = h in cc)
first-slot (y ∷ ys) e ns h = (y.1, ys, grind arith, ap (drop 1) h)
