-- What a script says of the next call, by the fakes that are still to come.
use Rattle.outside_io.specs.Scripts.{IsPassed, IsPlacedAt, RisesFrom, fake_at, next_fake}
use Rattle.outside_io.specs.declared.entries.Fake.{Fake}
use Rattle.outside_io.specs.declared.entries.FakeKind.{FakeKind}
use Rattle.std.proofs.Common.{List, None, Option, Some, [], add-one, ap, arith, cond, drop, eq-eqb, inl, inr, length, lt-ltb, refl, slice_index_or, subst, suc, sym, take, ℕ, ◌++◌, ◌+◌, ◌-◌, ◌<◌, ◌^◌, ◌∙◌, ◌∷◌, ◌≡◌, ◌≤◌}
use Rattle.std.proofs.Math.ListN.{drop_of_length-le}
use Rattle.std.proofs.Math.Seq.{drop-cons}
use Rattle.std.proofs.lemmas.Bool.Decides.{eqb_tells}
use Rattle.std.proofs.lemmas.List.{take-append-drop, take_more}

-- a number at which the script's head does not stand is looked up behind it
behind_head : (f : Fake) (fs : List Fake) (call : ℕ) → (f.call ≡ call → ⊥)
    → fake_at (f ∷ fs) call ≡ fake_at fs call
unfolding fake_at
behind_head f fs call other =
    elim (eqb_tells f.call call) [
      | inl p ↦ absurd (other p.1)
      | inr p ↦ ap
          (λ b. cond b (Some f.kind) (fake_at fs call)) p.0
    ]

at_head : (f : Fake) (fs : List Fake) (call : ℕ) → f.call ≡ call
    → fake_at (f ∷ fs) call ≡ Some f.kind
unfolding fake_at
at_head f fs call same = ap (λ b. cond b (Some f.kind) (fake_at fs call)) (eq-eqb f.call call same)

-- a script whose numbers rise from n says nothing of calls up to n
none_before : (n call : ℕ) (fs : List Fake) → RisesFrom n fs → call ≤ n → fake_at fs call ≡ None
unfolding fake_at
none_before n call [] rises below = refl
none_before n call (f ∷ fs) rises below =
    behind_head f fs call (λ same. omega (arith, same, rises.0, below))
    ∙ none_before f.call call fs rises.1 (omega (arith, rises.0, below))

-- fakes that are passed say nothing of later calls
passed_over : (n call : ℕ) (xs ys : List Fake) → IsPassed n xs → n < call
    → fake_at (xs ++ ys) call ≡ fake_at ys call
passed_over n call [] ys passed later = refl
passed_over n call (f ∷ fs) ys passed later =
    behind_head f (fs ++ ys) call (λ same. omega (arith, same, passed.0, later))
    ∙ passed_over n call fs ys passed.1 later

pub IsPassed-later : (n m : ℕ) (xs : List Fake) → n ≤ m → IsPassed n xs → IsPassed m xs
IsPassed-later n m [] later passed = tt
IsPassed-later n m (f ∷ fs) later passed =
    (omega (arith, passed.0, later), IsPassed-later n m fs later passed.1)

IsPassed-append : (n : ℕ) (xs : List Fake) (f : Fake) → IsPassed n xs → f.call ≤ n
    → IsPassed n (xs ++ f ∷ [])
IsPassed-append n [] f passed here = (here, tt)
IsPassed-append n (x ∷ xs) f passed here = (passed.0, IsPassed-append n xs f passed.1 here)

-- only the fakes still to come say something of the next call
from_coming : (fakes : List Fake) (next calls : ℕ) → IsPlacedAt fakes next calls
    → fake_at fakes (calls + 1) ≡ fake_at (drop next fakes) (calls + 1)
from_coming fakes next calls placed =
    ap (λ all. fake_at all (calls + 1)) (sym (take-append-drop next fakes))
    ∙ passed_over calls (calls + 1) (take next fakes) (drop next fakes) placed.passed (omega arith)

-- where the last fake is passed, a further call leaves the place
pub ended-placed : (fakes : List Fake) (next calls : ℕ) → IsPlacedAt fakes next calls
    → next ≡ length fakes → IsPlacedAt fakes next (calls + 1)
ended-placed fakes next calls placed ended = record {
  within = placed.within;
  passed = IsPassed-later calls (calls + 1) (take next fakes) (omega arith) placed.passed;
  coming = let P : List Fake → Type 0 = RisesFrom (calls + 1) in
      subst P (sym (drop_of_length-le fakes (omega (arith, ended)))) tt;
}

-- the fakes from the place on
coming_are : (fakes : List Fake) (next : ℕ) (f d : Fake) → next < length fakes
    → f ≡ slice_index_or fakes next d → drop next fakes ≡ f ∷ drop (next + 1) fakes
coming_are fakes next f d within here =
    drop-cons fakes next d within ∙ ap (λ x. x ∷ drop (suc next) fakes) (sym here)
    ∙ ap (λ n. f ∷ drop n fakes) (sym (add-one next))

coming_rise : (fakes : List Fake) (next calls : ℕ) (f d : Fake) → IsPlacedAt fakes next calls → next
    < length fakes → f ≡ slice_index_or fakes next d → RisesFrom calls (f ∷ drop (next + 1) fakes)
coming_rise fakes next calls f d placed within here =
    let P : List Fake → Type 0 = RisesFrom calls in
    subst P (coming_are fakes next f d within here) placed.coming

-- where the next fake is for a later call, a further call leaves the place
pub later-placed : (fakes : List Fake) (next calls : ℕ) (f d : Fake) → IsPlacedAt fakes next calls
    → next < length fakes → f ≡ slice_index_or fakes next d → (f.call ≡ calls + 1 → ⊥)
    → IsPlacedAt fakes next (calls + 1)
later-placed fakes next calls f d placed within here other =
    let rise = coming_rise fakes next calls f d placed within here in
    let P : List Fake → Type 0 = RisesFrom (calls + 1) in
    record {
      within = placed.within;
      passed = IsPassed-later calls (calls + 1) (take next fakes) (omega arith) placed.passed;
      coming = subst P (sym (coming_are fakes next f d within here))
          (omega (arith, rise.0, other), rise.1);
    }

-- where the next fake is for this call, the place moves
pub taken-placed : (fakes : List Fake) (next calls : ℕ) (f d : Fake) → IsPlacedAt fakes next calls
    → next < length fakes → f ≡ slice_index_or fakes next d → f.call ≡ calls + 1
    → IsPlacedAt fakes (next + 1) (calls + 1)
taken-placed fakes next calls f d placed within here now =
    let rise = coming_rise fakes next calls f d placed within here in
    let P : List Fake → Type 0 = IsPassed (calls + 1) in
    let Q : ℕ → Type 0 = λ n. RisesFrom n (drop (next + 1) fakes) in
    record {
      within = omega (arith, within);
      passed = subst P (sym (take_more fakes next d within ∙ ap (λ x. take next fakes ++ x ∷ [])
          (sym here))) (IsPassed-append (calls + 1) (take next fakes) f (IsPassed-later calls
          (calls + 1) (take next fakes) (omega arith) placed.passed) (omega (arith, now)));
      coming = subst Q now rise.1;
    }

-- the place after a call shows that the script says nothing of it
pub none-now : (fakes : List Fake) (next calls : ℕ) → IsPlacedAt fakes next calls
    → IsPlacedAt fakes next (calls + 1) → fake_at fakes (calls + 1) ≡ None
none-now fakes next calls placed after =
    from_coming fakes next calls placed
    ∙ none_before (calls + 1) (calls + 1) (drop next fakes) after.coming (omega arith)

pub taken-now : (fakes : List Fake) (next calls : ℕ) (f d : Fake) → IsPlacedAt fakes next calls
    → next < length fakes → f ≡ slice_index_or fakes next d → f.call ≡ calls + 1
    → fake_at fakes (calls + 1) ≡ Some f.kind
taken-now fakes next calls f d placed within here now =
    from_coming fakes next calls placed ∙ ap (λ fs. fake_at fs (calls + 1))
    (coming_are fakes next f d within here) ∙ at_head f (drop (next + 1) fakes) (calls + 1) now

-- before the last count, the next call is one more
pub next-is : (fakes : List Fake) (calls : ℕ) (r : Option FakeKind) → calls < 2 ^ 64 - 1
    → fake_at fakes (calls + 1) ≡ r → r ≡ next_fake fakes calls
next-is fakes calls r below is =
    sym (ap (λ b. cond b (fake_at fakes (calls + 1)) None) (lt-ltb calls (2 ^ 64 - 1) below) ∙ is)
