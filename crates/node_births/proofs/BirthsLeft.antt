-- All births are births, each of whose new nodes took its place.
use Rattle.node_births.proofs.Imports.{AllByRecursion, AreAllBorn, AreBirths, AreNodesLeft, AreOnce, AreOnce-tail, Birth, BoxPicture, Fault, Flaw, GraphBefore, GrowthFlaw, GrowthForm, GrowthsLeft, HasForm, IsBirth, IsBlank, IsTrue, List, Memory, NodeLeft, None, Option, Reserve, SameBox, Some, StopCause, [], all_places, ap, append-nil, arith, births_of, both_ways, box_at, cases_eq, cases_lt, eq-eqb, false, flat_map, form_at, get_elem?, get_or, get_or-eq_default, get_or-set_other, get_or-set_same, get_or_append_left, growths_of, holds_node, inl, inr, is_place, kept_growths, length, length-append, list_any, map, ne_eqb, no_box, not-blank, or_parts, refl, reserve_at, some, subst, suc, sym, true, ungrown_at, zero, ℕ, ◌++◌, ◌<◌, ◌==◌, ◌∙◌, ◌∷◌, ◌≡◌, ◌≢◌, ◌≤◌}
use Rattle.node_births.proofs.BirthWires.{avoids, is-at}
use Rattle.node_births.proofs.GraphsLeft.{all-both, once-left, takes-left}
use Rattle.node_births.proofs.NodesLeft.{Standing, all, as-before, born-still, births-known, each-of, grower-out, is-place-at, own-once, own-split, place-is, place-once, standing, was-born}
use Rattle.node_births.proofs.OwnSound.{all-sound, births_at, none-passes, grower-below, grows-by, others-none, own_births}
use Rattle.node_births.proofs.ReserveLaws.{unheld-born, held-below, held-blank, node-once, r_at, reserve-of}
use Rattle.node_births.proofs.SoundBirths.{place-cons}

-- ---- lists by their elements

all-from-elem : {A : Type 0} (P : A → Type 0) (xs : List A)
    → ((i : ℕ) (x : A) → get_elem? xs i ≡ some x → P x) → AllByRecursion P xs
all-from-elem P [] h = tt
all-from-elem P (x ∷ xs) h = (h 0 x refl, all-from-elem P xs (λ i. h (suc i)))

elem-first : {A : Type 0} (xs ys : List A) (i : ℕ) (x : A) → get_elem? xs i ≡ some x
    → get_elem? (xs ++ ys) i ≡ some x
elem-first [] ys i x e = absurd (cc)
elem-first (y ∷ xs) ys zero x e = e
elem-first (y ∷ xs) ys (suc i) x e = elem-first xs ys i x e

all-at : {A : Type 0} (P : A → Type 0) (xs : List A) (i : ℕ) (x : A) → AllByRecursion P xs
    → get_elem? xs i ≡ some x → P x
all-at P [] i x h e = absurd (cc)
all-at P (y ∷ xs) zero x h e = let same : y ≡ x = cc in subst P same h.0
all-at P (y ∷ xs) (suc i) x h e = all-at P xs i x h.1 e

all-pieces : {A : Type 0} (P : A → Type 0) (f : Reserve → List A) (rs : List Reserve) → ((j : ℕ) → j
    < length rs → AllByRecursion P (f (reserve_at rs j))) → AllByRecursion P (flat_map f rs)
unfolding reserve_at
all-pieces P f [] h = tt
all-pieces P f (r ∷ rs) h = all-both P (f r) (flat_map f rs) (h 0 (omega arith))
    (all-pieces P f rs (λ j lt. h (suc j) (omega (arith, lt))))

none-behind : {A : Type 0} (xs ys : List A) → xs ++ ys ≡ [] → ys ≡ []
none-behind [] ys e = e
none-behind (x ∷ xs) ys e = absurd (cc)

-- births are so for boxes that differ in growths which aren't among them
births-same : (reserves : List Reserve) (a b c : List BoxPicture) (births : List Birth)
    → AreBirths reserves a b births → ((m : ℕ) → SameBox (box_at b m) (box_at c m))
    → ((m : ℕ) → IsTrue (box_at c m).lawful → growths_of m births ≢ []
    → kept_growths (box_at c m) ≡ kept_growths (box_at b m)) → AreBirths reserves a c births
births-same reserves a b c births h same kept = record {
  each = all-from-elem _ births (λ i x at. let y = all-at _ births i x h.each at in
      let s = same x.expander in record {
        as_many = y.as_many;
        ends = y.ends;
        reserved = y.reserved;
        unborn = y.unborn;
        born = λ k lt. rw ((same (get_or x.places k 0)).spec) (y.born k lt);
        grown = rw (s.spec) y.grown;
        may_grow = λ lawful. rw (s.spec, s.files) (y.may_grow (sym s.lawful ∙ lawful));
      });
  take = h.take;
  once = h.once;
  stay_blank = λ n none off. (same n).spec ∙ h.stay_blank n none off;
  grew = λ n lawful grown. kept n lawful grown ∙ h.grew n (sym (same n).lawful ∙ lawful) grown;
}

-- ---- the one birth that took a node

module _ (m : ℕ) (P : Birth → ℕ → Type 0) where
  -- what holds of each place at which a birth has the node
  abbrev Takes : Birth → Type 0
  Takes b = (j : ℕ) → j < length b.places → get_or b.places j 0 ≡ m → P b j

  takes-none : (births : List Birth) → is_place births m ≡ false → AllByRecursion Takes births
  takes-none [] off = tt
  takes-none (b ∷ births) off = let parts = or_parts _ _ (sym (place-cons b births m) ∙ off) in
      ((λ j lj e. absurd (avoids b.places m parts.0 j lj e)), takes-none births parts.1)

  -- where it holds of one
  takes-one : (births : List Birth) → AreOnce (all_places births) → (i : ℕ) (c : Birth)
      → get_elem? births i ≡ some c → (l : ℕ) → l < length c.places → get_or c.places l 0 ≡ m
      → P c l → AllByRecursion Takes births
  takes-one [] once i c at l ll is p = absurd (cc)
  takes-one (b ∷ births) once zero c at l ll is p = let same : b ≡ c = cc in (
    (λ j lj e. let len = length-append b.places (all_places births) in
        grind (arith, get_or_append_left, b.places)),
    takes-none births (place-once (b ∷ []) births m once (rw append-nil (subst (λ x. list_any (λ
        (k : ℕ). k == m) x ≡ true) (ap (λ (x : Birth). x.places) (sym same)) (rw is at (is-at
        c.places l ll))))),
  )
  takes-one (b ∷ births) once (suc i) c at l ll is p = (
    (λ j lj e. absurd (both_ways _ (place-once (b ∷ []) births m once (rw append-nil (rw e at (is-at
        b.places j lj)))) (is-place-at births i c m at (rw is at (is-at c.places l ll))))),
    takes-one births (once-rest b.places (all_places births) once) i c at l ll is p,
  )
    where
      once-rest : (xs ys : List ℕ) → AreOnce (xs ++ ys) → AreOnce ys
      once-rest [] ys once = once
      once-rest (x ∷ xs) ys once = once-rest xs ys (AreOnce-tail x (xs ++ ys) once)

module _ {g : GraphBefore} {nodes : ℕ → NodeLeft} {after : List BoxPicture}
    (h : AreNodesLeft g nodes after) where
  all-tested : (n : ℕ) (xs : List Birth)
      → AllByRecursion (λ (b : Birth). b.expander ≡ n) (births_of n xs)
  all-tested n [] = tt
  all-tested n (b ∷ xs) = grind (arith, cases_eq, n, eq-eqb, ne_eqb, all-tested n xs)

  -- a new node's box has the spec that its birth names
  forms : (m k : ℕ) → k < length g.reserves → holds_node m (r_at h.before k) ≡ true → is_place
      (own_births h k) m ≡ true → AllByRecursion (Takes m (λ b j. HasForm (nodes m).box.spec
      (form_at b.growth.specs j))) (own_births h k)
  forms m k lt here on =
      let P : Birth → ℕ → Type 0 = (λ b j. HasForm (nodes m).box.spec (form_at b.growth.specs j)) in
      let w = was-born h m k lt here on in
      takes-one m P (own_births h k) (own-once h m k lt here) w.number w.birth (rw (own-split h m k
      lt here) (elem-first (nodes m).births _ w.number w.birth w.among)) w.place w.in_range
      w.at_place (rw (w.stays.same.spec, w.loads.spec) w.form)

  own-each : (k : ℕ) → k < length g.reserves
      → AllByRecursion (IsBirth g.reserves g.boxes after) (own_births h k)
  own-each k lt = all-from-elem _ _ birth
    where
      n : ℕ
      n = (r_at h.before k).node

      birth : (i : ℕ) (b : Birth) → get_elem? (own_births h k) i ≡ some b
          → IsBirth g.reserves g.boxes after b
      birth i b at = let of = all-at _ _ i b (each-of h k lt) at in
          let exp : b.expander ≡ n = all-at _ _ i b (rw ((grows-by h k lt).own) at (all-tested n
          (own_births h k))) at in
          let same : of.number ≡ k = node-once h.before of.number k of.in_range lt (sym of.expander
          ∙ exp) in
          let held : (j : ℕ) → j < length b.places → holds_node (get_or b.places j 0) (r_at h.before
          k) ≡ true = (λ j lj. rw same at (of.held _ (is-at b.places j lj))) in
          let after_n = h.boxes n (grower-below h k lt) in record {
            as_many = of.as_many;
            ends = of.ends;
            reserved = λ j lj. rw (exp, reserve-of h.before k lt) (held j lj);
            unborn = λ j lj. held-blank h.before _ k lt (held j lj);
            born = λ j lj. let m : ℕ = get_or b.places j 0 in
                rw (h.boxes m (held-below h.before m k lt (held j lj))) (all-at _ _ i b (forms m k
                lt (held j lj) (is-place-at (own_births h k) i b m at (is-at b.places j lj))) at j
                lj refl);
            grown = rw (exp, after_n) (born-still h n
                (grower-below h k lt) (grower-out h n k lt refl));
            may_grow = rw (exp, after_n) (((h.each n (grower-below h k lt)).leaves).may_grow i b at
                exp);
          }

  each-birth : AllByRecursion (IsBirth g.reserves g.boxes after) (all h)
  each-birth = all-pieces _ (births_at h) g.reserves own-each

  -- ---- growths that boxes keep

  past : (n : ℕ) → length g.boxes ≤ n → (box_at g.boxes n ≡ no_box) × (box_at after n ≡ no_box)
  unfolding box_at
  past n le = grind (arith, get_or-eq_default, no_box)

  past-none : (n : ℕ) → length g.boxes ≤ n → growths_of n (all h) ≡ []
  past-none n le = elim (standing h n) [
    | Standing.growing k lt is ↦ absurd (omega (arith, le, grower-below h k lt, is))
    | Standing.held k lt here ↦ absurd (omega (arith, le, held-below h.before n k lt here))
    | Standing.alone out ↦ ap (map (λ (b : Birth). b.growth)) (none-passes (births_at h) (λ (b :
        Birth). b.expander == n) g.reserves (λ j lj. others-none h j lj n (out j lj).0))
  ]

  -- a box keeps the growths of its node's births, unless a flaw stopped the run before them
  kept-by : (o : Option StopCause) (own : List GrowthForm) (p q : BoxPicture)
      → o ≢ Some Memory → ((f : GrowthFlaw) → o ≡ Some (Flaw f) → own ≢ [])
      → GrowthsLeft o own p q → IsTrue q.lawful → kept_growths q ≡ kept_growths p ++ own
  kept-by None own p q whole grown k lawful = k lawful
  kept-by (Some (Fault f)) own p q whole grown k lawful = k lawful
  kept-by (Some (Flaw f)) own p q whole grown k lawful = grind (arith, none-behind)
  kept-by (Some Memory) own p q whole grown k lawful = absurd (whole refl)

  keeps-own : (n : ℕ) → ((f : GrowthFlaw) → n < length g.boxes → (nodes n).stopped ≡ Some
      (Flaw f) → growths_of n (all h) ≢ []) → IsTrue (box_at after n).lawful → kept_growths
      (box_at after n) ≡ kept_growths (box_at g.boxes n) ++ growths_of n (all h)
  keeps-own n grown = grind (arith, cases_lt, n, all, births-known, kept-by, past, past-none)

  -- each growth that a lawful box keeps is a birth, where no flaw stopped the run
  pub all-born : ((n : ℕ) (f : GrowthFlaw) → n < length g.boxes → (nodes n).stopped ≢ Some
      (Flaw f)) → AreAllBorn g.boxes after (all h)
  all-born none n lawful = keeps-own n (λ f lt e. absurd (none n f lt e)) lawful

  -- a blank box that wasn't taken is blank
  still-blank : (n : ℕ) → IsBlank (box_at g.boxes n)
      → is_place (all h) n ≡ false → IsBlank (box_at after n)
  still-blank n none off = elim (cases_lt n (length g.boxes)) [
    | inr le ↦ rw (past n le).1 refl
    | inl lt ↦ rw (h.boxes n lt) (elim (standing h n) [
      | Standing.growing k lk is ↦ absurd (not-blank _ (unheld-born h.before n lt
          (grower-out h n k lk is)) none)
      | Standing.held k lk here ↦ ap (λ (p : BoxPicture). p.spec) (as-before h n k lk
          here (sym (place-is h n k lk here) ∙ off)) ∙ none
      | Standing.alone out ↦
          absurd (not-blank _ (unheld-born h.before n lt (λ j lj. (out j lj).1)) none)
    ])
  ]

  -- the births of all nodes are births
  pub births-left : AreBirths g.reserves g.boxes after (all h)
  births-left = record {
    each = each-birth;
    take = takes-left h.before [] (all h) tt (all-sound h);
    once = once-left h.before [] (all h) tt (all-sound h)
        (λ i j li lj e. absurd (omega (arith, li)));
    stay_blank = still-blank;
    grew = λ n lawful grown. keeps-own n (λ f lt e. grown) lawful;
  }

  -- ---- before a growth that had a flaw

  module _ (n : ℕ) (f : GrowthFlaw) (lt : n < length g.boxes)
      (flawed : (nodes n).stopped ≡ Some (Flaw f)) where
    abbrev boxes : List BoxPicture
    boxes = ungrown_at after n

    here : box_at boxes n ≡ record (box_at after n) { growth = None }
    unfolding box_at
    here = get_or-set_same after n _ no_box (rw h.count lt)

    other : (m : ℕ) → m ≢ n → box_at boxes m ≡ box_at after m
    unfolding box_at
    other m ne = get_or-set_other after n m _ no_box ne

    same : (m : ℕ) → SameBox (box_at after m) (box_at boxes m)
    same m = grind (arith, cases_eq, n, here, other)

    -- it was the first one of a lawful box
    none-before : IsTrue (box_at boxes n).lawful → growths_of n (all h) ≢ [] → ⊥
    none-before lawful grown = grind (arith, n, births-known, none-behind, same)

    pub ungrown-left : AreBirths g.reserves g.boxes (ungrown_at after n) (all h)
    ungrown-left =
        grind (arith, births-same, all, births-left, same, cases_eq, n, none-before, other)
