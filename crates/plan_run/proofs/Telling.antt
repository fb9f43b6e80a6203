-- What a run of a plan tells, from the steps that it is made of.
use Rattle.plan_run.proofs.Imports.{All, All-append, AreRun, AreStarting, Begun, BoxPicture, EachBox, Err, GivenBack, GivesBack, GivesBox, GivesPlan, Global, GraphBegins, GraphForm, HasStock, IsBlank, IsBlankAgain, IsBorn, IsLater, IsStill, KeepsBehind, Kind, LeavesStill, List, Loads, LoadsFirst, None, Ok, PlanFault, PlanFaultHolds, PutsBehind, RanKept, RanWith, Result, RunsPlan, Some, Spec, StaysBox, Table, Unloads, Vec, arith, box_at, cases_lt, inl, inr, kinds_in, kinds_taken, left_after, length, lt-leb, raised, spec_at, subst, sym, taken_at, taken_for, ℕ, ◌+◌, ◌<◌, ◌≡◌, ◌≤◌, ◌⊎◌}
use Rattle.plan_run.specs.declared.run.PlanFault.TheVariants as end
use Rattle.plan_run.proofs.Loading.{all-at, at-all, still}
use Rattle.plan_run.proofs.Taking.{kinds-length, left-all, taken-all, taken-length}

-- ---- one box

pub still-later : (p q : BoxPicture) → IsStill p q → IsLater p q
still-later p q s = grind arith

stays-later : (p q : BoxPicture) → StaysBox p q → IsLater p q
stays-later p q s = grind arith

later-later : (p q r : BoxPicture) → IsLater p q → IsLater q r → IsLater p r
later-later p q r a b = grind arith

-- a count that is at most the last one, before it rose by nothing
from-none : (count k : ℕ) → k ≡ 0 → raised count k ≤ count
from-none count k e = grind arith

pub ran-box : (s : Spec) (p m q : BoxPicture) → Loads p s m → StaysBox m q → RanWith s p q
ran-box s p m q l t = grind (arith, from-none)

-- what a run makes of a box of a graph that it began with: the same box, later
born-of : (p : BoxPicture) (s : Spec) → p.spec ≡ Some s → IsBorn p
born-of p s e = grind arith

loads-later : (s : Spec) (p q : BoxPicture) → Loads p s q → IsLater p q
loads-later s p q l = grind arith

same-later : (p q : BoxPicture) → q ≡ p → IsLater p q
same-later p q e = grind arith

gives-later : (p q : BoxPicture) → GivesBox p q → IsLater p q
gives-later p q g = grind (arith, same-later, later-later, loads-later, stays-later)

-- a blank box that wasn't loaded before the run
pub ran-kept : (p q : BoxPicture) → p.spec ≡ None → GivesBox p q → RanKept p q
ran-kept p q blank g = grind (arith, ran-box)

ran-later : (s : Spec) (p q : BoxPicture) → RanWith s p q → IsLater p q
ran-later s p q ran = ran.later

kept-later : (p q : BoxPicture) → RanKept p q → IsLater p q
kept-later p q h = grind (arith, same-later, ran-later)

unloads-after : (p q r : BoxPicture) → IsStill p q → Unloads q r → Unloads p r
unloads-after p q r s u = grind arith

again-after : (p q r : BoxPicture) → IsLater p q → Unloads q r → IsBlankAgain p r
again-after p q r l u = grind arith

-- ---- lists of boxes

-- what is made of each box by one call after another
pub each-then : (R S T : BoxPicture → BoxPicture → Type 0)
    → ((p q r : BoxPicture) → R p q → S q r → T p r) → (before mid after : List BoxPicture)
    → EachBox R before mid → EachBox S mid after → EachBox T before after
each-then R S T then before mid after e f = search (arith)

pub still-then-later : (before mid after : List BoxPicture) → EachBox IsStill before mid
    → EachBox IsLater mid after → EachBox IsLater before after
still-then-later =
    each-then IsStill IsLater IsLater (λ p q r s. later-later p q r (still-later p q s))

pub run-later : (loaded ended after : List BoxPicture) → GivenBack loaded ended
    → EachBox IsStill ended after → EachBox IsLater loaded after
run-later loaded ended after g = search (arith, each-then, later-later, gives-later, still-later)

-- ---- what each step makes of the boxes that a run left

pub taken-runs : (specs : List Spec) (taken loaded after ended : List BoxPicture)
    → length specs ≤ length taken → All IsBlank taken → LoadsFirst (length specs) specs taken loaded
    → LeavesStill (GivenBack loaded) after ended → LeavesStill (AreRun specs taken) after ended
unfolding spec_at box_at
taken-runs specs taken loaded after ended enough blank f r =
    search (arith, ran-box, born-of, ran-kept, at-all)

-- boxes that were put behind others, by what was made of them before
behind-then : (R S T : BoxPicture → BoxPicture → Type 0)
    → ((p q r : BoxPicture) → R p q → S q r → T p r)
    → (first boxes before after : List BoxPicture) → EachBox R first boxes
    → PutsBehind S boxes before after → PutsBehind T first before after
behind-then R S T then first boxes before after e b = search (arith, each-then)

pub plan-runs : (specs : List Spec) (kept : List Kind)
    (before taken left rack after ended : List BoxPicture)
    → taken ≡ taken_for (kinds_taken specs kept) before
    → left ≡ left_after (kinds_taken specs kept) before → PutsBehind Unloads after left rack
    → LeavesStill (AreRun specs taken) after ended → RunsPlan specs kept before rack ended
plan-runs specs kept before taken left rack after ended t l g h =
    search (arith, behind-then, unloads-after)

pub plan-gives-back : (kinds : List Kind) (before taken left rack after : List BoxPicture)
    → HasStock kinds before → taken ≡ taken_for kinds before → left ≡ left_after kinds before
    → PutsBehind Unloads after left rack → EachBox IsLater taken after → GivesBack kinds before rack
plan-gives-back kinds before taken left rack after stock t l g h =
    search (arith, behind-then, again-after)

pub back-blank : (kinds : List Kind) (before after : List BoxPicture) → All IsBlank before
    → GivesBack kinds before after → All IsBlank after
back-blank kinds before after blank g =
    let back = g.back in
    subst (All IsBlank) (sym back.rack) (All-append IsBlank (left_after kinds before) back.given
    (left-all IsBlank kinds before blank) (all-at IsBlank back.given
    (λ n lt. (back.boxes.each n (subst (λ k. n < k) back.boxes.count lt)).blank)))

module _ {specs : List Spec} {kept : List Kind} {before after ended : List BoxPicture}
    (run : RunsPlan specs kept before after ended) where
  abbrev kinds : List Kind
  kinds = kinds_taken specs kept

  pub run-count : length ended ≡ length specs + length kept
  run-count = grind (arith, run.boxes.count, taken-length, kinds-length)

  -- each box that a run of a plan left is that which was taken
  pub ended-later : (n : ℕ) → n < length ended
      → IsLater (taken_at kinds before n) (box_at ended n)
  ended-later n lt = elim (cases_lt n (length specs)) [
    | inl less ↦ (run.boxes.ran n less).later
    | inr past ↦ kept-later _ _
        (run.boxes.ran_kept n past (subst (λ k. n < k) run.boxes.count lt))
  ]

  -- and it was given back
  pub runs-give-back : HasStock kinds before → GivesBack kinds before after
  runs-give-back stock = search (arith, behind-then, again-after, ended-later)

  -- what is true of all boxes of the rack is true of those that are taken
  pub taken-has : (P : BoxPicture → Type 0) → HasStock kinds before → All P before → (n : ℕ)
      → n < length ended → P (taken_at kinds before n)
  taken-has P stock all n lt =
      at-all P (taken_for kinds before) n (subst (λ k. n < k) run.boxes.count lt)
      (taken-all P kinds before stock all)

-- ---- the ends

-- what is said of a run by the boxes that it left is said by what they are besides
module _ (R S : List BoxPicture → Type 0) (by : (ended : List BoxPicture) → R ended → S ended)
    (B C : (Begun → Type 0) → Type 0)
    (up : (P Q : Begun → Type 0) → ((b : Begun) → P b → Q b) → B P → C Q) where
  fault-by : (f : PlanFault) → PlanFaultHolds f B R → PlanFaultHolds f C S
  fault-by (end.Fault node f) h = up _ _ (λ b h. grind arith) h
  fault-by (end.Stuck k) h = up _ _ (λ b h. grind arith) h
  fault-by (end.BadGrowth k) h = up _ _ (λ b h. grind arith) h
  fault-by end.Memory h = h

  pub gives-by : (nodes n : ℕ) → nodes ≡ n → (r : Result (Vec Table Global) PlanFault)
      → GivesPlan B R nodes r → GivesPlan C S n r
  gives-by nodes n e (Ok chunks) g =
      record { rows = up _ _ (λ b h. grind arith) g.rows; fault = tt }
  gives-by nodes n e (Err f) g = record { rows = tt; fault = fault-by f g.fault }

pub begins-by : (form : GraphForm) (ks all : List Kind) → ks ≡ all → (P Q : Begun → Type 0)
    → ((b : Begun) → P b → Q b) → GraphBegins form ks P → GraphBegins form all Q
begins-by form ks all e P Q by h = grind arith

-- these boxes, as a run left them
pub still-left : (R : List BoxPicture → Type 0) (final after : List BoxPicture) → R final
    → EachBox IsStill final after → (ended : List BoxPicture) → ended ≡ final
    → LeavesStill R after ended
still-left R final after left still ended e = grind arith

-- the graph began with these boxes
pub begun-with : (form : GraphForm) (boxes : List BoxPicture) → AreStarting form.reserves boxes
    → (P Q : Begun → Type 0) → ((b : Begun) → P b → Q b)
    → P (record {
      ranks = form.ranks;
      wires = form.wires;
      reserves = form.reserves;
      boxes = boxes;
    }) → GraphBegins form (kinds_in boxes) Q
begun-with form boxes starting P Q by h = grind arith

-- the first boxes are loaded still
pub starting-born : (form : GraphForm) (nodes : ℕ) (boxes ended : List BoxPicture)
    → KeepsBehind nodes form → length form.ranks ≡ length boxes → nodes ≤ length boxes
    → AreStarting form.reserves boxes → GivenBack boxes ended → (n : ℕ) → n < nodes
    → IsBorn (box_at ended n)
unfolding box_at
starting-born form nodes boxes ended keeps ranks within starting back n lt =
    grind (arith, keeps.kept n, lt-leb, starting n, back.each n)
