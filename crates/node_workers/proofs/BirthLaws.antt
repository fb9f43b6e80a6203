-- The cells of all new nodes of a growth.
use Rattle.node_workers.proofs.Imports.{All, AllFit, AreLost, AwaitGrowth, AwaitsGrowth, BoxPicture, CellFits, CellNote, FitsOwnPlace, GrowNode, HasForm, HasNewOutputs, HasWires, IsGrowthOf, IsLost, IsLostThere, IsNewNode, List, Memory, NamedCell, Names, NodeCell, None, NotedStep, Option, Some, StopCause, Wire, [], ap, append_assoc, arith, cases_eq, eq-eqb, false, form_at, get_elem?, get_or, hit, hit_other, hit_same, length, list_any, map, map-append, number_of, once_below, or_parts, place_at, refl, reverse, reverse-append, some, some-injective, some-ne-none, spec_form, subst, suc, sym, times, times-append, zero, ℕ, ◌++◌, ◌+◌, ◌<◌, ◌==◌, ◌∙◌, ◌∷◌, ◌≡◌, ◌≢◌, ◌≤◌}
use Rattle.node_workers.proofs.NewNodeLaws.{lost-box, lost-new, with-outputs}

-- ---- lists

-- each of a list and one more fits
pub fit-push : {V : Type 0} (Q : V → ℕ → Type 0) (xs : List V) (y : V) → AllFit Q xs
    → Q y (length xs) → AllFit Q (xs ++ y ∷ [])
fit-push Q [] y h q zero v at = subst (λ w. Q w 0) (some-injective y v at) q
fit-push Q [] y h q (suc n) v at = absurd (some-ne-none v (sym at))
fit-push Q (x ∷ xs) y h q zero v at = h 0 v at
fit-push Q (x ∷ xs) y h q (suc n) v at =
    fit-push (λ w k. Q w (suc k)) xs y (λ k w e. h (suc k) w e) q n v at

at-place : {V : Type 0} (xs : List V) (n : ℕ) (d : V) → n < length xs
    → get_elem? xs n ≡ some (get_or xs n d)
at-place [] n d lt = absurd (omega (arith, lt))
at-place (x ∷ xs) zero d lt = refl
at-place (x ∷ xs) (suc n) d lt = at-place xs n d (omega (arith, lt))

-- what holds at the number that each has by its place holds at its own
all-own : {V : Type 0} (f : V → ℕ) (Q : ℕ → V → Type 0) (places : List ℕ) (xs : List V)
    → AllFit (λ v k. (f v ≡ place_at places k) × Q (place_at places k) v) xs
    → All (λ v. Q (f v) v) xs
all-own f Q places xs h k d lt = let a = h k (get_or xs k d) (at-place xs k d lt) in
    subst (λ n. Q n (get_or xs k d)) (sym a.0) a.1

-- ---- numbers that a seat of the shelf holds

-- n leaves a list in which it stood once
pub let-go : (n : ℕ) (old now : List ℕ) → times n old ≡ 1 → times n now ≡ 0
    → ((m : ℕ) → m ≢ n → times m now ≡ times m old) → (q : ℕ)
    → times q now + hit q n ≡ times q old
let-go n old now one none others q = grind (arith, cases_eq, hit_same, hit_other)

-- a number that isn't found in a list doesn't stand in it
pub not-among : (n : ℕ) (xs : List ℕ) → list_any (λ (k : ℕ). k == n) xs ≡ false → times n xs ≡ 0
not-among n [] h = refl
not-among n (x ∷ xs) h = let parts = or_parts (x == n) (list_any (λ (k : ℕ). k == n) xs) h in
    let more = not-among n xs parts.1 in let other = hit_other n x (λ (e : n ≡ x).
    let t = eq-eqb x n (sym e) in let f = parts.0 in cc) in omega (arith, more, other)

-- a list's numbers, with one more
pub times-more : {V : Type 0} (f : V → ℕ) (q : ℕ) (xs all : List V) (y : V) → all ≡ xs ++ y ∷ []
    → times q (map f all) ≡ times q (map f xs) + hit q (f y)
times-more f q xs all y is =
    let a = ap (λ l. times q (map f l)) is in let b = ap (times q) (map-append f xs (y ∷ [])) in
    let t = times-append q (map f xs) (f y ∷ []) in omega (arith, a, b, t)

-- the number of the last value stands once in a list that has each once
pub last-once : {V : Type 0} (f : V → ℕ) (xs all : List V) (y : V) (old : List ℕ) (c : ℕ)
    → all ≡ xs ++ y ∷ [] → ((q : ℕ) → times q (map f all) ≤ times q old)
    → ((q : ℕ) → times q old ≤ once_below q c) → times (f y) old ≡ 1
last-once f xs all y old c is holds once =
    grind (arith, times-more f (f y) xs all y is, hit_same (f y))

-- the last of values is put home: its number stood in the list that the seat held
pub put-last : {V : Type 0} (f : V → ℕ) (xs all : List V) (y : V) (old now : List ℕ)
    → all ≡ xs ++ y ∷ [] → ((q : ℕ) → times q (map f all) ≤ times q old) → times (f y) old ≡ 1
    → times (f y) now ≡ 0 → ((m : ℕ) → m ≢ f y → times m now ≡ times m old) → (q : ℕ)
    → (times q (map f xs) ≤ times q now)
    × (times q old + times q (map f xs) ≡ times q now + times q (map f all))
put-last f xs all y old now is holds one gone others q =
    let more = times-more f q xs all y is in let left = let-go (f y) old now one gone others q in
    let h = holds q in (omega (arith, more, left, h), omega (arith, more, left))

-- numbers of values that are taken from the end, the last one first
pub last-first : {V : Type 0} (f : V → ℕ) (xs all : List V) (y : V) (ns : List ℕ)
    → all ≡ xs ++ y ∷ [] → (ns ++ f y ∷ []) ++ reverse (map f xs) ≡ ns ++ reverse (map f all)
last-first f xs all y ns is = grind (arith, append_assoc, reverse, map-append, reverse-append)

numbers-are : {V : Type 0} (f : V → ℕ) (places : List ℕ) (xs : List V)
    → AllFit (λ v k. f v ≡ place_at places k) xs → length xs ≡ length places → map f xs ≡ places
numbers-are f [] [] h many = refl
numbers-are f [] (x ∷ xs) h many = absurd (omega (arith, many))
numbers-are f (p ∷ places) [] h many = absurd (omega (arith, many))
numbers-are f (p ∷ places) (x ∷ xs) h many = let e = h 0 x refl in
    let rest = numbers-are f places xs (λ k v at. h (suc k) v at) (omega (arith, many)) in cc

-- ---- cells

-- one for which memory is wanting fits as it was left
pub lost-fits : {P : Type 0} (x : Names) (seen : P → BoxPicture) (n : ℕ) (c : NodeCell P)
    (o : Option StopCause) (own : CellNote)
    → CellFits x seen n c o own → CellFits x seen n c (Some Memory) own
lost-fits x seen n c o own h = grind (arith, lost-box h.box)

module _ {P J : Type 0} (x : Names) (seen : P → BoxPicture) where
  pub lost-waiting : (n : ℕ) (d : NamedCell P J) → AwaitsGrowth x seen n d → IsLost x seen n d
  lost-waiting n d h = rw h.bare (lost-fits x seen n d.cell None _ h.fits)

  pub waiting-lost : (places : List ℕ) (cells : List (NamedCell P J))
      → AwaitGrowth x seen places cells → AreLost x seen places cells
  waiting-lost places cells h k d at = lost-waiting (place_at places k) d (h k d at)

  pub born-lost : (cells : List (NamedCell P J)) → All (FitsOwnPlace x seen) cells
      → All (IsLostThere x seen) cells
  born-lost cells h k d lt = let e = get_or cells k d in
      lost-fits x seen (number_of e) e.cell e.stopped e.note (h k d lt)

  pub lost-given : {g : NotedStep} {wires : List Wire} {first k n : ℕ} {d : NamedCell P J}
      → HasWires x g wires first → IsNewNode g k n → HasNewOutputs x seen g n d
      → IsLost x seen n d
  lost-given {g} {wires} {first} {k} {n} {d} wired new h = lost-new wired new h.unborn h.fits
      h.knows d.cell (with-outputs h).seat h.got.gains.gains.number (ap seen h.processor)

  -- all fit by the places of the new nodes, and so by their own numbers
  module _ (o : NamedCell P J → Option StopCause) (places : List ℕ) (cells : List (NamedCell P J))
      (h : AllFit (λ d k. CellFits x seen (place_at places k) d.cell (o d) d.note) cells) where
    pub all-there : All (λ (d : NamedCell P J). CellFits x seen (number_of d) d.cell (o d) d.note)
        cells
    all-there = all-own number_of (λ n d. CellFits x seen n d.cell (o d) d.note) places cells
        (λ k d at. ((h k d at).number, h k d at))

    pub all-numbers : length cells ≡ length places → map number_of cells ≡ places
    all-numbers = numbers-are number_of places cells (λ k d at. (h k d at).number)

  -- so cells that wait have the numbers of their places
  pub waiting-numbers : (places : List ℕ) (cells : List (NamedCell P J))
      → AwaitGrowth x seen places cells → length cells ≡ length places
      → map number_of cells ≡ places
  waiting-numbers places cells h =
      all-numbers (λ _. Some Memory) places cells (waiting-lost places cells h)

  pub waiting-there : (places : List ℕ) (cells : List (NamedCell P J))
      → AwaitGrowth x seen places cells → All (IsLostThere x seen) cells
  waiting-there places cells h =
      all-there (λ _. Some Memory) places cells (waiting-lost places cells h)

-- ---- new nodes of a growth

pub new-node : {x : Names} {g : NotedStep} {wires : List Wire} {first : ℕ} {places : List ℕ}
    → IsGrowthOf x g wires first places → (k : ℕ) → k < length places
    → IsNewNode g k (place_at places k)
new-node h k lt = grind arith

pub has-form : (nodes : List GrowNode) (k : ℕ) (n : GrowNode) → get_elem? nodes k ≡ some n
    → HasForm (Some n.spec) (form_at (map (λ (m : GrowNode). spec_form m.spec) nodes) k)
has-form [] k n at = absurd (some-ne-none n (sym at))
has-form (m ∷ nodes) zero n at =
    ap (λ (y : GrowNode). spec_form y.spec) (sym (some-injective m n at))
has-form (m ∷ nodes) (suc k) n at = has-form nodes k n at
