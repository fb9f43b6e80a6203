-- What is held of the inputs of a merge, as ends are noted and the first row is looked for.
use Rattle.std.proofs.lemmas.Grind.{common_steps}
use Rattle.std.proofs.Common.{◌≡◌, ◌≢◌, ℕ, zero, suc, ◌+◌, ◌++◌, ◌<◌, ◌≤◌, ◌-◌, ◌^◌, ◌&&◌, drop, min, Bool, true, false, List, [], ◌∷◌, length, get_or, not, Option, Some, None, refl, sym, ap, ap₂, subst, ◌∙◌, arith, inl, inr}
use Rattle.sort_procs.proofs.Imports.{All, HasRanks, Head, IsBeforeNone, IsFirstBut, IsRanked, Ordering, Ranked, Row, SortKey, SortSpec, and_from, and_parts, at, cases_lt, comes_before, count_up, every-append, first_row, get_or-append_seam, get_or-drop, get_or-map, get_or_append_left, get_or_read, goes_by, head_at, head_of, heads_of, is_lt, is_used, leb-false, length-append, length-drop, length-map, list_all, next_rows, no_head, not-true, ordering_reverse, ranked_cmp, ranked_place, row_at, row_cmp, row_cmp_total, rows-ordered, take_more}
use Rattle.std.specs.declared.cmp.Ordering.TheVariants.{Equal, Greater, Less}
use Rattle.sort_procs.proofs.RankLaws.{ranks_tell}

-- a head that was read
pub read-at : (heads : List Head) (i : ℕ) (x : Head) → i < length heads → x ≡ get_or heads i x
    → get_or heads i x ≡ at heads i
read-at heads i x lt is = sym is ∙ get_or_read heads i x lt is no_head

-- ---- ranks

count-long : (n : ℕ) → length (count_up n) ≡ n
unfolding count_up
count-long zero = refl
count-long (suc n) =
    length-append (count_up n) (n ∷ []) ∙ (let l = count-long n in omega (arith, l))

count-at : (n i : ℕ) → i < n → get_or (count_up n) i 0 ≡ i
unfolding count_up
count-at zero i lt = absurd (omega (arith, lt))
count-at (suc n) i lt = elim (cases_lt i n) [
  | inl less ↦
      get_or_append_left (count_up n) (n ∷ []) 0 i (let l = count-long n in omega (arith, l, less))
      ∙ count-at n i less
  | inr le ↦
      let same : i ≡ n = omega (arith, lt, le) in
      subst (λ k. get_or (count_up n ++ n ∷ []) k 0 ≡ i) (count-long n ∙ sym same)
      (get_or-append_seam (count_up n) n [] 0 ∙ sym same)
]

module _ (order : SortSpec) (h : Head) (ranked : IsRanked order h) where
  ranks-long : length h.ranks ≡ length h.chunk.rows
  ranks-long = sym (length-map h.ranks ranked_place) ∙ ap length ranked.places
      ∙ count-long (length h.chunk.rows)

  pub in-ranks : (i : ℕ) → i < length h.chunk.rows → i < length h.ranks
  in-ranks i lt = let l = ranks-long in omega (arith, l, lt)

  -- the ranks of row i
  ranks-at : (i : ℕ) (d : Ranked) → i < length h.chunk.rows
      → (ranked_place (get_or h.ranks i d) ≡ i) × HasRanks h.chunk order.keys (get_or h.ranks i d)
  ranks-at i d lt =
      let all = ranked.ranks in (
        sym (get_or-map ranked_place h.ranks i d 0 (in-ranks i lt))
            ∙ ap (λ l. get_or l i 0) ranked.places ∙ count-at (length h.chunk.rows) i lt,
        all i d (in-ranks i lt),
      )

-- rows of two heads compare as they do by the ranks that were read
pub heads-tell : (order : SortSpec) (h g : Head) (i j : ℕ) (a b : Ranked) → IsRanked order h
    → IsRanked order g → i < length h.chunk.rows → j < length g.chunk.rows
    → a ≡ get_or h.ranks i a → b ≡ get_or g.ranks j b
    → ranked_cmp h.chunk g.chunk order.keys a b
    ≡ row_cmp order.keys (row_at h.chunk.rows i) (row_at g.chunk.rows j)
heads-tell order h g i j a b k l lt less is are =
    let one = subst (λ r. (ranked_place r ≡ i) × HasRanks h.chunk order.keys r) (sym is)
    (ranks-at order h k i a lt) in
    let other = subst (λ r. (ranked_place r ≡ j) × HasRanks g.chunk order.keys r) (sym are)
    (ranks-at order g l j b less) in
    ranks_tell h.chunk g.chunk order.keys k.table l.table (k.fits.types_are ∙ sym l.fits.types_are)
    (subst (λ types. All (λ (key : SortKey). key.column < length types) order.keys)
    (sym k.fits.types_are) k.fits.keys_within) a b one.1 other.1
    ∙ ap₂ (λ m n. row_cmp order.keys (row_at h.chunk.rows m) (row_at g.chunk.rows n)) one.0 other.0

-- ---- the first row

module _ (keys : List SortKey) (heads : List Head) where
  abbrev lt : ℕ → ℕ → Bool
  lt j i = comes_before keys heads j (Some i)

  chain : (i j k : ℕ) → lt i j ≡ false → lt j k ≡ false → lt i k ≡ false
  chain i j k e f = let o = rows-ordered keys in
      o.chain (first_row (at heads i)) (first_row (at heads j)) (first_row (at heads k)) e f

  one-way : (i j : ℕ) → lt i j ≡ true → lt j i ≡ false
  one-way i j e = let o = rows-ordered keys in
      o.one_way (first_row (at heads i)) (first_row (at heads j)) e

  not-itself : (i : ℕ) → lt i i ≡ false
  not-itself i = by (lt i i) refl
    where
      by : (b : Bool) → lt i i ≡ b → lt i i ≡ false
      by false e = e
      by true e = one-way i i e

  -- a head that doesn't come before the first one
  pub first-stays : (but i : ℕ) (first : Option ℕ) → IsFirstBut keys heads but i first
      → (i ≢ but → (not (is_used (at heads i)) && comes_before keys heads i first) ≡ false)
      → IsFirstBut keys heads but (i + 1) first
  first-stays but i first h e = grind (arith, cases_lt)

  -- a head that comes before the first one
  pub first-changes : (but i : ℕ) (first : Option ℕ) → IsFirstBut keys heads but i first → i ≢ but
      → (not (is_used (at heads i)) && comes_before keys heads i first) ≡ true
      → IsFirstBut keys heads but (i + 1) (Some i)
  first-changes but i first h ne e = record {
    below = omega arith;
    other = ne;
    unused = not-true (is_used (at heads i)) (and_parts _ _ e).0;
    least = λ j less other free. elim (cases_lt j i) [
      | inl below ↦ by first h (and_parts _ _ e).1 j below other free
      | inr le ↦
          let z : i ≡ j = omega (arith, less, le) in
          subst (λ m. lt m i ≡ false) z (not-itself i)
    ];
  }
    where
      by : (f : Option ℕ) → IsFirstBut keys heads but i f → comes_before keys heads i f ≡ true
          → (j : ℕ) → j < i → j ≢ but → is_used (at heads j) ≡ false → lt j i ≡ false
      by None h c j below other free = absurd (let u = h j below other in cc)
      by (Some k) h c j below other free = chain j k i (h.least j below other free) (one-way i k c)

-- ---- the run of a head

module _ (keys : List SortKey) (f : Bool) (a b : Row) where
  -- a row that doesn't go before the other doesn't come before it
  pub stays-behind : goes_by f (row_cmp keys a b) ≡ false → is_lt (row_cmp keys a b) ≡ false
  stays-behind e = by (row_cmp keys a b) e
    where
      by : (o : Ordering) → goes_by f o ≡ false → is_lt o ≡ false
      by Less e = absurd (cc)
      by Equal e = refl
      by Greater e = refl

  -- and none comes before one that does
  pub goes-before : goes_by f (row_cmp keys a b) ≡ true → is_lt (row_cmp keys b a) ≡ false
  goes-before e = let o = row_cmp_total keys in
      ap is_lt (o.antisymm b a) ∙ by (row_cmp keys a b) e
    where
      by : (o : Ordering) → goes_by f o ≡ true → is_lt (ordering_reverse o) ≡ false
      by Less e = refl
      by Equal e = refl
      by Greater e = absurd (cc)

module _ (keys : List SortKey) (h : Head) where
  pub run-more : (y : Row) (n : ℕ) → h.place + n < length h.chunk.rows
      → IsBeforeNone keys y (next_rows h n)
      → is_lt (row_cmp keys y (row_at h.chunk.rows (h.place + n))) ≡ false
      → IsBeforeNone keys y (next_rows h (n + 1))
  run-more y n lt b e =
      let l = length-drop h.place h.chunk.rows in
      subst (IsBeforeNone keys y)
      (sym (take_more (drop h.place h.chunk.rows) n [] (omega (arith, l, lt))))
      (every-append (λ x. is_lt (row_cmp keys y x) ≡ false) (next_rows h n)
      (get_or (drop h.place h.chunk.rows) n [] ∷ []) b (
        subst (λ x. is_lt (row_cmp keys y x) ≡ false)
            (sym (get_or-drop h.place h.chunk.rows n [])) e,
        tt,
      ))

  module _ (heads : List Head) (room most : ℕ)
      (is : most ≡ min room (length h.chunk.rows - h.place)) (some : 0 < room)
      (unused : is_used h ≡ false) (long : length h.chunk.rows < 2 ^ 64) where
    left : h.place < length h.chunk.rows
    left = leb-false (length h.chunk.rows) h.place unused

-- ---- lists of heads

pub head-at : (heads : List Head) (i : ℕ) → head_at (heads_of heads) i ≡ head_of (at heads i)
head-at (h ∷ heads) (suc i) = head-at heads i
head-at _ i = refl

pub each-passes : (p : Head → Bool) (heads : List Head) → list_all p heads ≡ true → (i : ℕ)
    → i < length heads → p (at heads i) ≡ true
each-passes p heads h i lt = grind (arith, common_steps, and_parts)

pub all-pass : (p : Head → Bool) (heads : List Head)
    → ((i : ℕ) → i < length heads → p (at heads i) ≡ true) → list_all p heads ≡ true
all-pass p [] h = refl
all-pass p (x ∷ heads) h = and_from _ _ (h 0 (omega arith))
    (all-pass p heads (λ i lt. h (suc i) (omega (arith, lt))))
