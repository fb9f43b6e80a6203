-- What is left of the boxes of the node that grows and of its new nodes after its next birth.
use Rattle.node_births.proofs.Imports.{AsksToGrow, Birth, BoxPicture, Grew, GrowthForm, HasForm, IsBorn, IsBoxLeft, IsNextBirth, IsSome, IsTrue, List, Loads, MayGrow, None, Option, ReserveForm, Sizes, Some, Spec, StaysBox, [], ap, append-nil, append_assoc, births_of, cases_eq, cond, eq-eqb, form_at, get_elem?, get_or, growth_list, growths_of, inl, inr, is_some, kept_growths, length, map, map-append, ne_eqb, not-blank, refl, some, stays-both, stays-itself, suc, sym, zero, ℕ, ◌++◌, ◌<◌, ◌∙◌, ◌∷◌, ◌≡◌, ◌≢◌, ◌⊎◌}
use Rattle.node_births.proofs.NextStands.{own-all, place-births}
use Rattle.node_births.proofs.StandLaws.{kept-some}

-- ---- elements of a list with one more

elem-last : {A : Type 0} (xs : List A) (y : A) → get_elem? (xs ++ y ∷ []) (length xs) ≡ some y
elem-last [] y = refl
elem-last (x ∷ xs) y = elem-last xs y

elem-split : {A : Type 0} (xs : List A) (y : A) (i : ℕ) (x : A)
    → get_elem? (xs ++ y ∷ []) i ≡ some x → (get_elem? xs i ≡ some x) ⊎ (y ≡ x)
elem-split [] y zero x e = inr (cc)
elem-split [] y (suc i) x e = absurd (cc)
elem-split (z ∷ xs) y zero x e = inl e
elem-split (z ∷ xs) y (suc i) x e = elem-split xs y i x e

none-own : (m : ℕ) (births : List Birth) → births_of m births ≡ [] → (i : ℕ) (x : Birth)
    → get_elem? births i ≡ some x → x.expander ≢ m
none-own m [] none i x at = absurd (cc)
none-own m (b ∷ births) none i x at = elim (cases_eq b.expander m) [
  | inl is ↦ absurd (let e = rw (eq-eqb b.expander m is) at none in cc)
  | inr ne ↦ elim i as (λ j. get_elem? (b ∷ births) j ≡ some x → x.expander ≢ m) [
    | zero ↦ λ e is. let same : b ≡ x = cc in ne (ap (λ (y : Birth). y.expander) same ∙ is)
    | suc j ↦ none-own m births (rw (ne_eqb b.expander m ne) at none) j x
  ] at
]

-- ---- growths that a box keeps

kept-none : (s : Option Spec) (g : Option GrowthForm) → g ≡ None
    → cond (is_some s) (growth_list g) [] ≡ []
kept-none None g e = refl
kept-none (Some s) g e = ap growth_list e

kept-blank : (s : Option Spec) (g : Option GrowthForm) → s ≡ None
    → cond (is_some s) (growth_list g) [] ≡ []
kept-blank s g e = rw e refl

-- a box that is blank still is as it was
pub still-unborn : (births : List Birth) (m : ℕ) (x y : BoxPicture) → IsBoxLeft None births m x y
    → y.spec ≡ None → y ≡ x
still-unborn births m x y l none = elim (cases_blank x.spec) [
  | inl blank ↦ elim (l.unborn blank) [
    | inl same ↦ same
    | inr w ↦ absurd (let e = sym (w.stays.same.spec ∙ w.loads.spec) ∙ none in cc)
  ]
  | inr born ↦ absurd (not-blank x.spec born (sym (l.born born).same.spec ∙ none))
]
  where
    cases_blank : (s : Option Spec) → (s ≡ None) ⊎ IsSome s
    cases_blank None = inl refl
    cases_blank (Some s) = inr refl

module _ {z : Sizes} {k n : ℕ} {named : ReserveForm} {births : List Birth} {b : Birth}
    (h : IsNextBirth z k n named births b) where
  abbrev all : List Birth
  all = births ++ b ∷ []

  growths-all : growths_of n all ≡ growths_of n births ++ b.growth ∷ []
  growths-all = ap (map (λ (x : Birth). x.growth)) (own-all h)
      ∙ map-append (λ (x : Birth). x.growth) births (b ∷ [])
      ∙ ap (λ l. map (λ (x : Birth). x.growth) l ++ b.growth ∷ []) (sym h.own)

  -- the box of the node that grew, which says by what, where it was asked
  pub left-grown : (p q r : BoxPicture) → IsBorn p → IsBoxLeft None births n p q → AsksToGrow q
      → Grew b.growth q r → StaysBox q r → IsBoxLeft None all n p r
  left-grown p q r born l asks grew stays = record {
    born = λ _. stays-both p q r (l.born born) stays;
    unborn = λ none. absurd (not-blank p.spec born none);
    growth = λ lawful. let was : IsTrue q.lawful = rw (← stays.same.lawful) lawful in
        let own : IsBorn q = rw (l.born born).same.spec born in
        let none : kept_growths q ≡ [] = kept-none q.spec q.growth (asks.comes was).ungrown in
        let now : kept_growths r ≡ b.growth ∷ [] = kept-some r.spec r.growth (rw stays.same.spec
        own) ∙ ap growth_list grew.growth in
        now ∙ ap (λ l. l ++ b.growth ∷ []) (sym none ∙ l.growth was) ∙ append_assoc (kept_growths p)
        (growths_of n births) (b.growth ∷ []) ∙ ap (λ l. kept_growths p ++ l) (sym growths-all);
    may_grow = λ i x at of lawful. let was : IsTrue q.lawful = rw (← stays.same.lawful) lawful in
        elim (elem-split births b i x at) [
          | inl old ↦ rw (stays.same.spec, stays.same.files) (l.may_grow i x old of was)
          | inr same ↦ rw (← same) (rw (stays.same.spec, stays.same.files) (grew.grows was))
        ];
  }

  -- ---- a new node

  module _ (i : ℕ) (lt : i < length b.places) where
    abbrev p : ℕ
    p = get_or b.places i 0

    none-grown : growths_of p all ≡ []
    none-grown = ap (map (λ (x : Birth). x.growth)) (place-births h i lt)

    may-none : (x y : BoxPicture) (j : ℕ) (c : Birth) → get_elem? all j ≡ some c → c.expander ≡ p
        → IsTrue y.lawful → MayGrow y.spec y.files (Some c.growth)
    may-none x y j c at is lawful = absurd (none-own p all (place-births h i lt) j c at is)

    -- it isn't born, and knows of the birth
    pub left-unborn : (xs : List Birth) (x y : BoxPicture) → IsBoxLeft None xs p x y
        → y.spec ≡ None → IsBoxLeft None all p x y
    left-unborn xs x y l none = let same = still-unborn xs p x y l none in record {
      born = l.born;
      unborn = λ _. inl same;
      growth = λ _. rw (none-grown, same) (sym (append-nil (kept_growths x)));
      may_grow = may-none x y;
    }

    -- its box was loaded by what the birth names
    pub left-newborn : (xs : List Birth) (x y u : BoxPicture) (s : Spec) → IsBoxLeft None xs p x y
        → Loads y s u → HasForm (Some s) (form_at b.growth.specs i) → IsBoxLeft None all p x u
    left-newborn xs x y u s l loads form = let same = still-unborn xs p x y l loads.was_blank in
        let blank : x.spec ≡ None = rw same at loads.was_blank in record {
          born = λ born. absurd (not-blank x.spec born blank);
          unborn = λ _. inr record {
            number = length births;
            birth = b;
            among = elem-last births b;
            place = i;
            in_range = lt;
            at_place = refl;
            spec = s;
            loaded = u;
            loads = rw same at loads;
            form = form;
            stays = stays-itself u;
          };
          growth = λ _. kept-none u.spec u.growth loads.fresh.ungrown ∙ sym (ap (λ l. kept_growths x
              ++ l) none-grown ∙ append-nil (kept_growths x) ∙ kept-blank x.spec x.growth blank);
          may_grow = may-none x u;
        }
