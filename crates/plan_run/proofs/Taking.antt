-- Laws of what is taken from a rack, and what is left.
use Rattle.plan_run.proofs.Imports.{All, All-cons, All-head, All-nil, All-tail, BoxPicture, HasStock, Kind, Spec, TakesOut, count_by, count_by-cons, eq-eqb, eqb-true, first_box_of, get_or-append-add, get_or-map, get_or_append_left, is_of, kind_of, kind_place, kinds_in, kinds_taken, left_after, length-map, map_push, same_kind, take_more, taken_for, without_first_box, Bool, List, [], ap, ap₂, arith, cond, false, get_or, kind-at, length, length-append, map, refl, suc, sym, take, true, zero, ℕ, ◌++◌, ◌+◌, ◌<◌, ◌∙◌, ◌∷◌, ◌≡◌, ◌≤◌}

-- ---- kinds

pub same-kind : (a b : Kind) → same_kind a b ≡ true → a ≡ b
same-kind a b e = search (arith, kind-at, eqb-true)

-- ---- counts

none-first : (t : Bool) (n : ℕ) → cond t 1 0 + n ≡ 0 → (t ≡ false) × (n ≡ 0)
none-first t n e = grind arith

-- ---- one box

first-at : (k : Kind) (front : List BoxPicture) (b : BoxPicture) (back : List BoxPicture)
    → is_of k b ≡ true → count_by (is_of k) front ≡ 0 → (first_box_of k (front ++ b ∷ back) ≡ b)
    × (without_first_box k (front ++ b ∷ back) ≡ front ++ back)
first-at k [] b back it none = search (arith)
first-at k (p ∷ front) b back it none =
    let parts = none-first (is_of k p) (count_by (is_of k) front)
    (sym (count_by-cons (is_of k) p front) ∙ none) in
    let rest = first-at k front b back it parts.1 in
    grind (arith, parts, rest)

-- what a rack's `take` gives and leaves
pub takes-first : (k : Kind) (before after : List BoxPicture) (b : BoxPicture)
    → TakesOut k before after b → (first_box_of k before ≡ b) × (without_first_box k before ≡ after)
takes-first k before after b t =
    let at = first-at k t.front b t.back t.of_kind t.first in
    grind (arith, at)

-- where there is a box of the kind

pub some-rest : (k : Kind) (p : BoxPicture) (boxes : List BoxPicture) → is_of k p ≡ false
    → 0 < count_by (is_of k) (p ∷ boxes) → 0 < count_by (is_of k) boxes
some-rest k p boxes e some = grind (arith, count_by-cons)

first-all : (P : BoxPicture → Type 0) (k : Kind) (boxes : List BoxPicture)
    → 0 < count_by (is_of k) boxes → All P boxes → P (first_box_of k boxes)
first-all P k [] some all = absurd (omega (arith, some))
first-all P k (p ∷ boxes) some all =
    let rest = first-all P k boxes in
    grind (arith, some-rest k p boxes, All-head P p boxes all, All-tail P p boxes all, rest)

first-of-kind : (k : Kind) (boxes : List BoxPicture) → 0 < count_by (is_of k) boxes
    → is_of k (first_box_of k boxes) ≡ true
first-of-kind k [] some = absurd (omega (arith, some))
first-of-kind k (p ∷ boxes) some = choose (is_of k p) refl (first-of-kind k boxes)
  where
    choose : (t : Bool) → is_of k p ≡ t
        → (0 < count_by (is_of k) boxes → is_of k (first_box_of k boxes) ≡ true)
        → is_of k (cond t p (first_box_of k boxes)) ≡ true
    choose true e rest = e
    choose false e rest = rest (some-rest k p boxes e some)

without-all : (P : BoxPicture → Type 0) (k : Kind) (boxes : List BoxPicture) → All P boxes
    → All P (without_first_box k boxes)
without-all P k [] all = All-nil P
without-all P k (p ∷ boxes) all =
    let rest = without-all P k boxes (All-tail P p boxes all) in
    grind (arith, All-head P p boxes all, All-tail P p boxes all, All-cons P p, rest)

-- ---- stock

-- taking a box of one kind leaves one less of that kind, and as many of each other
without-count : (j k : Kind) (boxes : List BoxPicture)
    → count_by (is_of j) boxes
    ≤ count_by (is_of j) (without_first_box k boxes) + cond (same_kind k j) 1 0
without-count j k [] = omega arith
without-count j k (p ∷ boxes) = choose (is_of k p) refl (without-count j k boxes)
  where
    choose : (t : Bool) → is_of k p ≡ t
        → count_by (is_of j) boxes
        ≤ count_by (is_of j) (without_first_box k boxes) + cond (same_kind k j) 1 0
        → count_by (is_of j) (p ∷ boxes)
        ≤ count_by (is_of j) (cond t boxes (p ∷ without_first_box k boxes)) + cond (same_kind k j) 1
        0
    choose true e rest =
        let same : ◌≡◌ {A = ℕ} (cond (same_kind p.kind j) 1 0) (cond (same_kind k j) 1 0) =
        ap {B = ℕ} (λ i. cond (same_kind i j) 1 0) (same-kind p.kind k e) in
        omega (arith, same, count_by-cons (is_of j) p boxes)
    choose false e rest =
        omega (
          arith,
          count_by-cons (is_of j) p boxes,
          count_by-cons (is_of j) p (without_first_box k boxes),
          rest,
        )

pub stock-step : (k : Kind) (kinds : List Kind) (boxes : List BoxPicture)
    → HasStock (k ∷ kinds) boxes → HasStock kinds (without_first_box k boxes)
stock-step k kinds boxes h j =
    omega (arith, h j, count_by-cons (λ i. same_kind i j) k kinds, without-count j k boxes)

pub stock-here : (k : Kind) (kinds : List Kind) (boxes : List BoxPicture)
    → HasStock (k ∷ kinds) boxes → 0 < count_by (is_of k) boxes
stock-here k kinds boxes h =
    let one = eq-eqb (kind_place k) (kind_place k) refl in
    grind (arith, h k, count_by-cons (λ i. same_kind i k) k kinds, one)

-- the next box that is asked for is there
pub still-there : (kinds : List Kind) (n : ℕ) (d : Kind) (boxes : List BoxPicture)
    → HasStock kinds boxes → n < length kinds
    → 0 < count_by (is_of (get_or kinds n d)) (left_after (take n kinds) boxes)
still-there [] n d boxes h lt = absurd (omega (arith, lt))
still-there (k ∷ kinds) zero d boxes h lt = stock-here k kinds boxes h
still-there (k ∷ kinds) (suc n) d boxes h lt = still-there kinds n d (without_first_box k boxes)
    (stock-step k kinds boxes h) (omega (arith, lt))

-- ---- all that are taken

left-snoc : (kinds : List Kind) (k : Kind) (boxes : List BoxPicture)
    → left_after (kinds ++ k ∷ []) boxes ≡ without_first_box k (left_after kinds boxes)
left-snoc [] k boxes = refl
left-snoc (j ∷ kinds) k boxes = left-snoc kinds k (without_first_box j boxes)

taken-snoc : (kinds : List Kind) (k : Kind) (boxes : List BoxPicture)
    → taken_for (kinds ++ k ∷ []) boxes ≡ taken_for kinds boxes
    ++ first_box_of k (left_after kinds boxes) ∷ []
taken-snoc [] k boxes = refl
taken-snoc (j ∷ kinds) k boxes = ap (λ l. first_box_of j boxes ∷ l)
    (taken-snoc kinds k (without_first_box j boxes))

pub taken-length : (kinds : List Kind) (boxes : List BoxPicture)
    → length (taken_for kinds boxes) ≡ length kinds
taken-length [] boxes = refl
taken-length (k ∷ kinds) boxes = ap suc (taken-length kinds (without_first_box k boxes))

pub taken-kinds : (kinds : List Kind) (boxes : List BoxPicture) → HasStock kinds boxes
    → kinds_in (taken_for kinds boxes) ≡ kinds
taken-kinds [] boxes h = refl
taken-kinds (k ∷ kinds) boxes h =
    ap₂ (λ i l. i ∷ l)
    (same-kind (first_box_of k boxes).kind k (first-of-kind k boxes (stock-here k kinds boxes h)))
    (taken-kinds kinds (without_first_box k boxes) (stock-step k kinds boxes h))

pub taken-all : (P : BoxPicture → Type 0) (kinds : List Kind) (boxes : List BoxPicture)
    → HasStock kinds boxes → All P boxes → All P (taken_for kinds boxes)
taken-all P [] boxes h all = All-nil P
taken-all P (k ∷ kinds) boxes h all =
    All-cons P _ _ (first-all P k boxes (stock-here k kinds boxes h) all)
    (taken-all P kinds _ (stock-step k kinds boxes h) (without-all P k boxes all))

pub left-all : (P : BoxPicture → Type 0) (kinds : List Kind) (boxes : List BoxPicture) → All P boxes
    → All P (left_after kinds boxes)
left-all P [] boxes all = all
left-all P (k ∷ kinds) boxes all = left-all P kinds (without_first_box k boxes)
    (without-all P k boxes all)

-- ---- one more is taken

pub taken-more : (kinds : List Kind) (n : ℕ) (k : Kind) (boxes taken left : List BoxPicture)
    → take (n + 1) kinds ≡ take n kinds ++ k ∷ [] → left ≡ left_after (take n kinds) boxes
    → taken ≡ taken_for (take n kinds) boxes
    → taken ++ first_box_of k left ∷ [] ≡ taken_for (take (n + 1) kinds) boxes
taken-more kinds n k boxes taken left more l t = grind (arith, taken-snoc)

pub left-more : (kinds : List Kind) (n : ℕ) (k : Kind) (boxes left : List BoxPicture)
    → take (n + 1) kinds ≡ take n kinds ++ k ∷ [] → left ≡ left_after (take n kinds) boxes
    → without_first_box k left ≡ left_after (take (n + 1) kinds) boxes
left-more kinds n k boxes left more l = grind (arith, left-snoc)

-- ---- the next box, as the code takes it

pub pushed-first : {A : Type 0} (f : A → BoxPicture) (k : Kind) (before after : List BoxPicture)
    (xs ys : List A) (b : A) → ys ≡ xs ++ b ∷ [] → TakesOut k before after (f b)
    → map f ys ≡ map f xs ++ first_box_of k before ∷ []
pushed-first f k before after xs ys b e t = ap (map f) e ∙ map_push f xs b
    ∙ ap (λ p. map f xs ++ p ∷ []) (sym (takes-first k before after (f b) t).0)

pub left-first : {A : Type 0} (f : A → BoxPicture) (k : Kind) (before : List BoxPicture)
    (ys : List A) (b : A) → TakesOut k before (map f ys) (f b) → map f ys
    ≡ without_first_box k before
left-first f k before ys b t = sym (takes-first k before (map f ys) (f b) t).1

pub kinds-length : (specs : List Spec) (kept : List Kind)
    → length (kinds_taken specs kept) ≡ length specs + length kept
kinds-length specs kept = grind (arith, length-append, length-map)

-- the kind that is asked for next, where it is that of the next node
pub node-kind : (specs : List Spec) (kept : List Kind) (i : ℕ) (s : Spec) (k : Kind)
    → s ≡ get_or specs i s → i < length specs → k ≡ kind_of s
    → k ≡ get_or (kinds_taken specs kept) i k
node-kind specs kept i s k read lt e = grind (arith, get_or_append_left, length-map, get_or-map)

-- or the next that is kept
pub kept-kind : (specs : List Spec) (kept : List Kind) (i j : ℕ) (k : Kind) → k ≡ get_or kept j k
    → i ≡ length specs + j → k ≡ get_or (kinds_taken specs kept) i k
kept-kind specs kept i j k read at = grind (arith, length-map, get_or-append-add)

pub ruleset places = (node-kind, kept-kind)

pub next-there : (kinds : List Kind) (i : ℕ) (k : Kind) (before left : List BoxPicture)
    → HasStock kinds before → left ≡ left_after (take i kinds) before → i < length kinds
    → get_or kinds i k ≡ k → 0 < count_by (is_of k) left
next-there kinds i k before left stock l lt e =
    grind (arith, still-there kinds i k before stock lt)

pub more-kinds : (kinds : List Kind) (i : ℕ) (k : Kind) → i < length kinds
    → get_or kinds i k ≡ k → take (i + 1) kinds ≡ take i kinds ++ k ∷ []
more-kinds kinds i k lt e = grind (arith, take_more)
