-- What the end of a run leaves of a graph that grew while workers ran it: its births stay, and no
-- more come.
use Rattle.pipeline_exec.proofs.Imports.{BoxPicture, GivenBack, GivesBox, List, Reserve, [], ap, append-nil, arith, box_at, cases_Bool, cases_lt, get_or-eq_default, inl, inr, is_some, length, no_box, refl, ℕ, ◌<◌, ◌∙◌, ◌≡◌}
use Rattle.exec_laws.proofs.Acting.{keeps-itself}
use Rattle.exec_laws.proofs.BirthLaws.{all-born-both, births-both, gives-both, keeps-gives, none-of}
use Rattle.exec_laws.specs.Births.{AreAllBorn, AreBirths, Birth}
use Rattle.node_ends.proofs.Boxes.{box-itself, stayed-given}
use Rattle.node_ends.specs.RunEnds.{BoxStays, BoxesStay, GrowthsStay}
use Rattle.std.proofs.Common.{IsTrue}

-- what holds of each box that is given back, and past the last one, holds everywhere
everywhere : (a b : List BoxPicture) → length b ≡ length a
    → (Q : BoxPicture → BoxPicture → Type 0) → Q no_box no_box
    → ((n : ℕ) → n < length a → Q (box_at a n) (box_at b n)) → (n : ℕ) → Q (box_at a n) (box_at b n)
unfolding box_at
everywhere a b count Q past each n = elim (cases_lt n (length a)) [
  | inl lt ↦ each n lt
  | inr le ↦ rw (
    get_or-eq_default a no_box {n = n} le,
    get_or-eq_default b no_box {n = n} (rw count le),
  ) past
]

gives-all : (a b : List BoxPicture) → GivenBack a b → (n : ℕ) → GivesBox (box_at a n) (box_at b n)
gives-all a b h = everywhere a b h.count GivesBox (keeps-gives _ _ (keeps-itself no_box)) h.each

pub back-both : (a b c : List BoxPicture) → GivenBack a b → GivenBack b c → GivenBack a c
back-both a b c h k = record {
  count = k.count ∙ h.count;
  each = λ n lt. gives-both (box_at a n) (box_at b n) (box_at c n) (h.each n lt)
      (gives-all b c k n);
}

module _ (b c : List BoxPicture) (stay : BoxesStay b c) where
  stays-all : (n : ℕ) → BoxStays (box_at b n) (box_at c n)
  stays-all = everywhere b c stay.count BoxStays (box-itself no_box) stay.each

  same-spec : (n : ℕ) → (box_at c n).spec ≡ (box_at b n).spec
  same-spec n = elim (cases_Bool (is_some (box_at b n).spec)) [
    | inl some ↦ ((stays-all n).born some).same.spec
    | inr none ↦ ap (λ (p : BoxPicture). p.spec) ((stays-all n).blank (none-of _ none))
  ]

  none-then : (reserves : List Reserve) → AreBirths reserves b c []
  none-then reserves = record {
    each = tt;
    take = tt;
    once = λ j k lt. absurd (omega (arith, lt));
    stay_blank = λ n blank none. same-spec n ∙ blank;
    grew = λ n lawful some. absurd (some refl);
  }

  module _ (growths : GrowthsStay b c) where
    all-then : AreAllBorn b c []
    all-then n lawful = rw (
      append-nil,
      same-spec n,
      everywhere b c stay.count (λ p q. IsTrue q.lawful → q.growth ≡ p.growth) (λ _. refl) growths n
          lawful,
    ) refl

    module _ (reserves : List Reserve) (a : List BoxPicture) (back : GivenBack a b)
        (births : List Birth) (are : AreBirths reserves a b births)
        (all : AreAllBorn a b births) where
      -- births stay births
      pub births-stay : AreBirths reserves a c births
      births-stay = rw append-nil at (births-both reserves a b c (gives-all a b back)
          (gives-all b c (stayed-given b c stay)) births [] are (none-then reserves) all all-then)

      -- and are all
      pub all-stay : AreAllBorn a c births
      all-stay = rw append-nil at (all-born-both reserves a b c (gives-all a b back)
          (gives-all b c (stayed-given b c stay)) births [] are (none-then reserves) all all-then)
