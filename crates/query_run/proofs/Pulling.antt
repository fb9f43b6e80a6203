-- The rows that the boxes of a rack pulled in a run, kind by kind.
use Rattle.query_run.proofs.Imports.{All, BoxPicture, HasFullCount, HasStock, Kind, List, PulledMore, RunsPlan, Some, Spec, [], ap, arith, both_ways, box_at, cases_Bool, cases_lt, cond, count_by, ended-later, false, first_box_of, get_or, get_or-append-add, get_or-map, inl, inr, is_of, kind_of, kinds_in, kinds_of, kinds_taken, left_after, length, length-append, length-map, no_box, pulled_by_boxes, pulled_since, refl, same_kind, some-rest, stock-here, stock-step, subst, suc, sym, taken-kinds, taken_for, true, without_first_box, ℕ, ◌++◌, ◌+◌, ◌-◌, ◌<◌, ◌∙◌, ◌∷◌, ◌≡◌, ◌≤◌, ◌⊎◌}

pulled-append : (k : Kind) (xs ys : List BoxPicture)
    → pulled_by_boxes k (xs ++ ys) ≡ pulled_by_boxes k xs + pulled_by_boxes k ys
pulled-append k [] ys = omega arith
pulled-append k (x ∷ xs) ys = omega (arith, pulled-append k xs ys)

-- taking a box out takes its rows out
pulled-without : (k j : Kind) (boxes : List BoxPicture) → 0 < count_by (is_of j) boxes
    → pulled_by_boxes k boxes ≡ cond (is_of k (first_box_of j boxes))
    (first_box_of j boxes).pulled 0 + pulled_by_boxes k (without_first_box j boxes)
pulled-without k j [] some = absurd (omega (arith, some))
pulled-without k j (p ∷ boxes) some = elim (cases_Bool (is_of j p)) [
  | inl here ↦ rw here refl
  | inr other ↦
      let rest = pulled-without k j boxes (some-rest j p boxes other some) in
      rw other (omega (arith, rest))
]

-- what the rack's boxes have pulled is what the taken ones have, and what those that are left have
pub pulled-taken : (k : Kind) (kinds : List Kind) (boxes : List BoxPicture) → HasStock kinds boxes
    → pulled_by_boxes k boxes ≡ pulled_by_boxes k (taken_for kinds boxes) + pulled_by_boxes k
    (left_after kinds boxes)
pulled-taken k [] boxes h = omega arith
pulled-taken k (j ∷ kinds) boxes h =
    omega (
      arith,
      pulled-without k j boxes (stock-here j kinds boxes h),
      pulled-taken k kinds (without_first_box j boxes) (stock-step j kinds boxes h),
    )

-- ---- taken boxes, as a run left them, and as they were given back

-- a box of the kind pulled what it had, and what it pulled since it was loaded
pub record IsGivenMore (k : Kind) (p q r : BoxPicture) : Type 0 where
  pub ran : q.kind ≡ p.kind
  pub given : r.kind ≡ p.kind
  pub pulled : is_of k p ≡ true → r.pulled ≡ p.pulled + q.notes.pulled

given-more : (k : Kind) (p q r : BoxPicture) → IsGivenMore k p q r
    → cond (is_of k r) r.pulled 0 ≡ cond (is_of k p) p.pulled 0 + cond (is_of k q) q.notes.pulled 0
given-more k p q r h = grind arith

pub pulled-given : (k : Kind) (taken ended given : List BoxPicture) → length ended ≡ length taken
    → length given ≡ length taken
    → ((n : ℕ) → n < length taken
    → IsGivenMore k (box_at taken n) (box_at ended n) (box_at given n))
    → pulled_by_boxes k given ≡ pulled_by_boxes k taken + pulled_since k ended
unfolding box_at
pulled-given k [] [] [] el gl each = refl
pulled-given k (p ∷ taken) (q ∷ ended) (r ∷ given) el gl each =
    omega (
      arith,
      given-more k p q r (each 0 (omega arith)),
      pulled-given k taken ended given (omega (arith, el)) (omega (arith, gl))
          (λ n lt. each (suc n) (omega (arith, lt))),
    )
pulled-given k taken ended given el gl each = absurd (omega (arith, el, gl))

at-append : (xs ys : List BoxPicture) (n : ℕ)
    → box_at (xs ++ ys) (length xs + n) ≡ box_at ys n
unfolding box_at
at-append xs ys n = get_or-append-add xs ys n no_box

-- what is true of the kinds that are kept is true of the boxes behind the nodes
pub kind-kept : (P : Kind → Type 0) (specs : List Spec) (kept : List Kind)
    (boxes : List BoxPicture) → kinds_in boxes ≡ kinds_taken specs kept → All P kept → (n : ℕ)
    → length specs ≤ n → n < length boxes → P (box_at boxes n).kind
unfolding box_at
kind-kept P specs kept boxes e all n le lt =
    let each : length (kinds_of specs) ≡ length specs = length-map specs kind_of in
    let len = length-map boxes (λ (p : BoxPicture). p.kind) in
    let count = ap (λ (l : List Kind). length l) e ∙ length-append (kinds_of specs) kept in
    let place : n ≡ length (kinds_of specs) + (n - length specs) = omega (arith, le, each) in
    let at : (box_at boxes n).kind ≡ get_or kept (n - length specs) no_box.kind =
    sym (get_or-map (λ (p : BoxPicture). p.kind) boxes n no_box no_box.kind lt)
    ∙ ap (λ l. get_or l n no_box.kind) e
    ∙ ap (λ m. get_or (kinds_taken specs kept) m no_box.kind) place
    ∙ get_or-append-add (kinds_of specs) kept (n - length specs) no_box.kind in
    subst P (sym at) (all (n - length specs) no_box.kind (omega (arith, le, lt, len, count, each)))

-- ---- over a rack

module _ {specs : List Spec} {kept : List Kind} {before after ended : List BoxPicture}
    (stock : HasStock (kinds_taken specs kept) before)
    (run : RunsPlan specs kept before after ended) (k : Kind)
    (others : All (λ j. same_kind j k ≡ false) kept) where
  abbrev kinds : List Kind
  kinds = kinds_taken specs kept

  abbrev left : List BoxPicture
  left = left_after kinds before

  abbrev taken : List BoxPicture
  taken = taken_for kinds before

  same-count : length taken ≡ length ended
  same-count = sym run.boxes.count

  abbrev given : List BoxPicture
  given = run.back.given

  -- a box that is kept for another node isn't of the kind
  other-kind : (n : ℕ) → length specs ≤ n → n < length taken → is_of k (box_at taken n) ≡ false
  other-kind = kind-kept (λ j. same_kind j k ≡ false) specs kept taken
      (taken-kinds kinds before stock) others

  pub kept-other : (n : ℕ) → length specs ≤ n → n < length ended → is_of k (box_at ended n) ≡ false
  kept-other n le lt = grind (arith, same-count, ended-later, other-kind)

  each-given : (n : ℕ) → n < length taken
      → IsGivenMore k (box_at taken n) (box_at ended n) (box_at given n)
  each-given n lt =
      let in_ended : n < length ended = subst (λ m. n < m) same-count lt in
      let l = ended-later run n in_ended in
      let u = run.back.boxes.each n in_ended in
      record {
        ran = l.kind;
        given = u.kind ∙ l.kind;
        pulled = λ of. elim (cases_lt n (length specs)) [
          | inl less ↦ u.counts.pulled ∙ (run.boxes.ran n less).pulled
          | inr past ↦ absurd (both_ways _ (other-kind n past lt) of)
        ];
      }

  -- the rack's boxes have pulled what they had, and what the taken ones pulled since they were
  -- loaded
  pub pulled-after : pulled_by_boxes k after ≡ pulled_by_boxes k before + pulled_since k ended
  pulled-after = grind (
    arith,
    each-given,
    pulled-append k left given,
    pulled-taken k kinds before stock,
    pulled-given k taken ended given run.boxes.count (run.back.boxes.count ∙ run.boxes.count)
        each-given,
  )

  -- where the ended boxes of a kind pulled so many rows, or one has a full count
  pub kind-pulled : (n : ℕ) → (pulled_since k ended ≡ n) ⊎ HasFullCount k ended
      → PulledMore k before after (Some n)
  kind-pulled n (inl e) = let all = pulled-after in inl (omega (arith, all, e))
  kind-pulled n (inr x) = grind (arith, at-append left given x.place, length-append left given)
