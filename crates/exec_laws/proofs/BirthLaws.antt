-- Births add up: those of a run are the ones so far, and then the next.
use Rattle.exec_laws.proofs.Imports.{rules, AllByRecursion, AreAllBorn, AreBirths, AreOnce-append, Birth, BoxPicture, GivesBox, GrowthForm, HasForm, IsBirth, IsBlank, IsBorn, IsSome, IsTrue, KeepsBox, List, MayGrow, None, Option, Reserve, Some, Spec, SpecForm, TakeBlanks, Wire, [], all_places, append-nil, append_assoc, arith, births_of, blanks_of, box_at, cases_Bool, cases_eq, cases_lt, eq-eqb, false, flat_map-append, get_or, get_or-append_right, get_or_append_left, grown_ranks, grown_wires, growth_list, growths_of, inl, inr, is_place, is_some, kept_growths, length, length-append, list_any, list_any-append, map-append, ne_eqb, or_parts, or_right, refl, set_ranks, suc, sym, true, zero, ℕ, ◌++◌, ◌-◌, ◌<◌, ◌==◌, ◌||◌, ◌∙◌, ◌∷◌, ◌≡◌}
use Rattle.exec_laws.proofs.Acting.{stays-both}
use Rattle.exec_laws.proofs.Nodes.{not-blank}

-- ---- lists of births

all-places : (xs ys : List Birth) → all_places (xs ++ ys) ≡ all_places xs ++ all_places ys
all-places xs ys = flat_map-append (λ (b : Birth). b.places) xs ys

births-append : (n : ℕ) (xs ys : List Birth)
    → births_of n (xs ++ ys) ≡ births_of n xs ++ births_of n ys
births-append n [] ys = refl
births-append n (b ∷ xs) ys = grind (arith, births-append n xs ys)

pub wires-append : (wires : List Wire) (xs ys : List Birth)
    → grown_wires (grown_wires wires xs) ys ≡ grown_wires wires (xs ++ ys)
wires-append wires xs ys = grind (arith, append_assoc, flat_map-append)

pub ranks-append : (ranks : List ℕ) (xs ys : List Birth)
    → grown_ranks (grown_ranks ranks xs) ys ≡ grown_ranks ranks (xs ++ ys)
ranks-append ranks [] ys = refl
ranks-append ranks (b ∷ xs) ys = ranks-append (set_ranks ranks b.places b.growth.ranks) xs ys

-- ---- places

-- what holds of each place of each birth
each-place : (P : ℕ → Type 0) (births : List Birth)
    → AllByRecursion (λ (b : Birth). (k : ℕ) → k < length b.places → P (get_or b.places k 0)) births
    → (j : ℕ) → j < length (all_places births) → P (get_or (all_places births) j 0)
each-place P [] h j lt = absurd (omega (arith, lt))
each-place P (b ∷ births) h j lt = elim (cases_lt j (length b.places)) [
  | inl less ↦ rw (get_or_append_left b.places (all_places births) 0 j less) (h.0 j less)
  | inr le ↦ rw (get_or-append_right b.places (all_places births) j 0 le)
      (each-place P births h.1 (j - length b.places)
      (omega (arith, lt, le, length-append b.places (all_places births))))
]

all-map : {A : Type 0} (P Q : A → Type 0) → ((x : A) → P x → Q x) → (xs : List A)
    → AllByRecursion P xs → AllByRecursion Q xs
all-map P Q f [] h = tt
all-map P Q f (x ∷ xs) h = (f x h.0, all-map P Q f xs h.1)

all-both : {A : Type 0} (P : A → Type 0) (xs ys : List A) → AllByRecursion P xs
    → AllByRecursion P ys → AllByRecursion P (xs ++ ys)
all-both P [] ys h k = k
all-both P (x ∷ xs) ys h k = (h.0, all-both P xs ys h.1 k)

-- the place that a number of a list is at
pub record PlaceOf (places : List ℕ) (m : ℕ) : Type 0 where
  pub place : ℕ
  pub in_range : place < length places
  pub is : get_or places place 0 ≡ m

pub place-of : (places : List ℕ) (m : ℕ) → list_any (λ (k : ℕ). k == m) places ≡ true
    → PlaceOf places m
place-of [] m h = absurd (cc)
place-of (p ∷ places) m h = elim (cases_eq p m) [
  | inl e ↦ record { place = 0; in_range = omega arith; is = e }
  | inr ne ↦
      let rest = place-of places m (rw (ne_eqb p m ne) at h) in
      let lt = rest.in_range in
      record { place = suc rest.place; in_range = omega (arith, lt); is = rest.is }
]

is-place-both : (xs ys : List Birth) (n : ℕ)
    → is_place (xs ++ ys) n ≡ (is_place xs n || is_place ys n)
is-place-both xs ys n = grind (arith, all-places, list_any-append)

-- the blanks that births take, and then more births
takes-both : (reserves : List Reserve) (a : List BoxPicture) (e xs ys : List Birth)
    → TakeBlanks reserves a e xs → TakeBlanks reserves a (e ++ xs) ys
    → TakeBlanks reserves a e (xs ++ ys)
takes-both reserves a e [] ys h k = rw append-nil at k
takes-both reserves a e (x ∷ xs) ys h k =
    grind (arith, append_assoc, takes-both reserves a (e ++ x ∷ []) xs ys h.1)

-- ---- boxes

pub none-of : (s : Option Spec) → is_some s ≡ false → s ≡ None
none-of s e = grind arith

has-born : (s : Option Spec) (f : SpecForm) → HasForm s f → IsSome s
has-born s f h = grind arith

pub keeps-gives : (p q : BoxPicture) → KeepsBox p q → GivesBox p q
keeps-gives p q h = record { born = h.born; unborn = λ none. inl (h.unborn none) }

pub gives-both : (p q r : BoxPicture) → GivesBox p q → GivesBox q r → GivesBox p r
gives-both p q r h k = search (rules, stays-both)

-- ---- births, and then more

module _ (reserves : List Reserve) (a b c : List BoxPicture)
    (k : (n : ℕ) → GivesBox (box_at a n) (box_at b n))
    (l : (n : ℕ) → GivesBox (box_at b n) (box_at c n)) (xs ys : List Birth)
    (h : AreBirths reserves a b xs) (g : AreBirths reserves b c ys) (first : AreAllBorn a b xs)
    (then : AreAllBorn b c ys) where
  stays-born : (n : ℕ) → IsBorn (box_at b n) → (box_at c n).spec ≡ (box_at b n).spec
  stays-born n born = ((l n).born born).same.spec

  blank-before : (n : ℕ) → IsBlank (box_at b n) → IsBlank (box_at a n)
  blank-before n none = grind (arith, not-blank, none-of)

  lawful-before : (n : ℕ) → IsTrue (box_at c n).lawful → IsTrue (box_at b n).lawful
  lawful-before n holds = grind (arith, none-of)

  places-born : (j : ℕ) → j < length (all_places xs)
      → IsBorn (box_at b (get_or (all_places xs) j 0))
  places-born = each-place (λ n. IsBorn (box_at b n)) xs (all-map (IsBirth reserves a b)
      (λ (x : Birth). (j : ℕ) → j < length x.places → IsBorn (box_at b (get_or x.places j 0)))
      (λ x i j lt. has-born _ _ (i.born j lt)) xs h.each)

  -- a node is born then that was born before, or that a birth took
  born-then : (n : ℕ) → is_some (box_at b n).spec ≡ (is_place xs n || is_some (box_at a n).spec)
  born-then n = elim (cases_Bool (is_some (box_at a n).spec)) [
    | inl some ↦ rw (((k n).born some).same.spec, some) (sym (or_right (is_place xs n) true refl))
    | inr none ↦ elim (cases_Bool (is_place xs n)) [
      | inl new ↦
          let p = place-of (all_places xs) n new in
          let born = rw p.is at (places-born p.place p.in_range) in
          rw (none, new) born
      | inr old ↦ rw (none, old, h.stay_blank n (none-of _ none) old) refl
    ]
  ]

  kind-then : (n : ℕ) → (box_at b n).kind ≡ (box_at a n).kind
  kind-then n = grind (arith, none-of, cases_Bool (is_some (box_at a n).spec))

  blanks-then : (e : List Birth) (first count : ℕ)
      → blanks_of b e first count ≡ blanks_of a (xs ++ e) first count
  blanks-then e first zero = refl
  blanks-then e first (suc count) =
      grind (arith, kind-then, born-then, is-place-both, blanks-then e first count)

  takes-then : (e zs : List Birth) → TakeBlanks reserves b e zs → TakeBlanks reserves a (xs ++ e) zs
  takes-then e [] t = tt
  takes-then e (z ∷ zs) t =
      grind (arith, blanks-then, append_assoc, takes-then (e ++ z ∷ []) zs t.1)

  pub all-born-both : AreAllBorn a c (xs ++ ys)
  all-born-both n lawful = grind (arith, lawful-before, append_assoc, births-append, map-append)

  pub births-both : AreBirths reserves a c (xs ++ ys)
  births-both = record {
    each = all-both (IsBirth reserves a c) xs ys
        (all-map (IsBirth reserves a b) (IsBirth reserves a c) (λ x i. record {
          as_many = i.as_many;
          ends = i.ends;
          reserved = i.reserved;
          unborn = i.unborn;
          born = λ j lt. rw (stays-born _ (has-born _ _ (i.born j lt))) (i.born j lt);
          grown = rw (stays-born _ i.grown) i.grown;
          may_grow = λ lawful.
              let s = ((l x.expander).born i.grown).same in
              rw (s.spec, s.files) (i.may_grow (lawful-before x.expander lawful));
        }) xs h.each)
        (all-map (IsBirth reserves b c) (IsBirth reserves a c) (λ x i. record {
          as_many = i.as_many;
          ends = i.ends;
          reserved = i.reserved;
          unborn = λ j lt. blank-before _ (i.unborn j lt);
          born = i.born;
          grown = i.grown;
          may_grow = i.may_grow;
        }) ys g.each);
    take = takes-both reserves a [] xs ys h.take (rw append-nil at (takes-then [] ys g.take));
    once = rw (all-places xs ys)
        (AreOnce-append (λ n. IsBorn (box_at b n)) (all_places xs) (all_places ys) h.once g.once
        places-born (each-place (λ n. IsBorn (box_at b n) → ⊥) ys (all-map (IsBirth reserves b c)
        (λ (x : Birth). (j : ℕ) → j < length x.places → IsBorn (box_at b (get_or x.places j 0)) → ⊥)
        (λ x i j lt born. not-blank _ born (i.unborn j lt)) ys g.each)));
    stay_blank = λ n none away.
        let both = or_parts (is_place xs n) (is_place ys n) (sym (is-place-both xs ys n) ∙ away) in
        g.stay_blank n (h.stay_blank n none both.0) both.1;
    grew = λ n lawful some. all-born-both n lawful;
  }

-- ---- what a lawful box may give

record GrownBy (P : Birth → Type 0) (n : ℕ) (g : GrowthForm) : Type 0 where
  pub birth : Birth
  pub holds : P birth
  pub expander : birth.expander ≡ n
  pub growth : birth.growth ≡ g

grown-by : (P : Birth → Type 0) (n : ℕ) (births : List Birth) (g : GrowthForm) (rest : List
    GrowthForm) → AllByRecursion P births → growths_of n births ≡ g ∷ rest → GrownBy P n g
grown-by P n [] g rest h e = absurd (cc)
grown-by P n (b ∷ births) g rest h e = elim (cases_eq b.expander n) [
  | inl same ↦
      let now = rw (eq-eqb b.expander n same) at e in
      let head : b.growth ≡ g = cc in
      record { birth = b; holds = h.0; expander = same; growth = head }
  | inr ne ↦ grown-by P n births g rest h.1 (rw (ne_eqb b.expander n ne) at e)
]

-- a lawful box that hadn't grown before keeps, if any, a growth that it may give
pub grows-lawfully : (reserves : List Reserve) (a b : List BoxPicture) (births : List Birth)
    → AreBirths reserves a b births → AreAllBorn a b births → (n : ℕ)
    → kept_growths (box_at a n) ≡ []
    → IsBorn (box_at b n) → IsTrue (box_at b n).lawful
    → MayGrow (box_at b n).spec (box_at b n).files (box_at b n).growth
grows-lawfully reserves a b births h all n none born lawful = go (box_at b n).growth refl
  where
    kept : growth_list (box_at b n).growth ≡ growths_of n births
    kept = rw (born, none) at (all n lawful)

    go : (g : Option GrowthForm) → (box_at b n).growth ≡ g
        → MayGrow (box_at b n).spec (box_at b n).files g
    go None e = tt
    go (Some g) e =
        let by = grown-by (IsBirth reserves a b) n births g [] h.each (sym (rw e at kept)) in
        let i = by.holds in
        rw (by.expander, by.growth) at (i.may_grow (rw by.expander lawful))
