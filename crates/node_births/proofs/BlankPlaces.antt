-- Where there are blanks enough of each kind, the places of new nodes are blanks' nodes, each taken
-- once.
use Rattle.node_births.proofs.Imports.{AreOnce, AreOnce-append, Birth, Blank, Bool, BoxPicture, Kind, List, None, [], all_kinds, ap, append-nil, arith, blank_place, blanks_of, box_at, cases_Bool, cases_eq, cases_lt, cond, count_by, count_by-append, count_by-cons, eq-eqb, eqb-true, false, find, get_or, inl, inr, is_blank_of, is_place, is_some, kind-at, kind_place, lacks_blank, length, list_any, list_any_at, ltb-false, ne_eqb, or_parts, places_for, refl, same_kind, suc, true, without_blank, zero, ℕ, ◌++◌, ◌+◌, ◌<◌, ◌==◌, ◌||◌, ◌∙◌, ◌∷◌, ◌≡◌, ◌≤◌}

abbrev pub node_count : List Blank → ℕ → ℕ
node_count blanks m = count_by (λ (b : Blank). b.node == m) blanks

abbrev pub place_count : List ℕ → ℕ → ℕ
place_count places m = count_by (λ (k : ℕ). k == m) places

-- ---- counts

count-yes : {A : Type 0} (test : A → Bool) (x : A) (xs : List A) → test x ≡ true
    → count_by test (x ∷ xs) ≡ 1 + count_by test xs
count-yes test x xs h = count_by-cons test x xs ∙ rw h refl

pub count-no : {A : Type 0} (test : A → Bool) (x : A) (xs : List A) → test x ≡ false
    → count_by test (x ∷ xs) ≡ count_by test xs
count-no test x xs h = count_by-cons test x xs ∙ rw h (omega arith)

-- ---- kinds

same-kind : (a b : Kind) → same_kind a b ≡ true → a ≡ b
same-kind a b e = grind (arith, kind-at, eqb-true, kind_place)

-- there are as many blanks of each kind as are wanted
abbrev AreEnough : List Kind → List Blank → Type 0
AreEnough wanted blanks = (k : Kind)
    → count_by (λ (j : Kind). same_kind j k) wanted ≤ count_by (is_blank_of k) blanks

unless-found : (test : Kind → Bool) (ks : List Kind) (i : ℕ) (d : Kind) → find test ks ≡ None
    → i < length ks → test (get_or ks i d) ≡ false
unless-found test [] i d h lt = absurd (omega (arith, lt))
unless-found test (k ∷ ks) i d h lt = elim (cases_Bool (test k)) [
  | inl on ↦ absurd (let e = rw on at h in cc)
  | inr off ↦ elim i as (λ j. j < length (k ∷ ks) → test (get_or (k ∷ ks) j d) ≡ false) [
    | zero ↦ λ _. off
    | suc j ↦ λ less. unless-found test ks j d (rw off at h) (omega (arith, less))
  ] lt
]

are-enough : (wanted : List Kind) (blanks : List Blank)
    → find (lacks_blank wanted blanks) all_kinds ≡ None → AreEnough wanted blanks
are-enough wanted blanks h k = let none : lacks_blank wanted blanks k ≡ false = rw (kind-at k k) at
    (unless-found (lacks_blank wanted blanks) all_kinds (kind_place k) k h (place-below k)) in
    ltb-false _ _ none
  where
    place-below : (j : Kind) → kind_place j < length all_kinds
    place-below j = grind arith

-- ---- one blank is taken

module _ (k : Kind) where
  -- one of each blank but of the one that is taken
  node-taken : (blanks : List Blank) (past : ℕ) → 1 ≤ count_by (is_blank_of k) blanks → (m : ℕ)
      → node_count blanks m
      ≡ cond (blank_place k blanks past == m) 1 0 + node_count (without_blank k blanks) m
  node-taken [] past h m = absurd (omega (arith, h))
  node-taken (b ∷ blanks) past h m = elim (cases_Bool (is_blank_of k b)) [
    | inl on ↦ rw on (count_by-cons (λ (c : Blank). c.node == m) b blanks)
    | inr off ↦ let one = count-no (is_blank_of k) b blanks off in
        let e = node-taken blanks past (omega (arith, h, one)) m in
        let l = count_by-cons (λ (c : Blank). c.node == m) b blanks in
        let r = count_by-cons (λ (c : Blank). c.node == m) b (without_blank k blanks) in
        rw off (omega (arith, e, l, r))
  ]

  kind-taken : (blanks : List Blank) → 1 ≤ count_by (is_blank_of k) blanks → (j : Kind)
      → count_by (is_blank_of j) blanks
      ≡ cond (same_kind k j) 1 0 + count_by (is_blank_of j) (without_blank k blanks)
  kind-taken [] h j = absurd (omega (arith, h))
  kind-taken (b ∷ blanks) h j = elim (cases_Bool (is_blank_of k b)) [
    | inl on ↦ rw on (count_by-cons (is_blank_of j) b blanks ∙ ap (λ i. cond (same_kind i j) 1 0 +
        count_by (is_blank_of j) blanks) (same-kind b.kind k on))
    | inr off ↦
        let e = kind-taken blanks (omega (arith, h, count-no (is_blank_of k) b blanks off)) j in
        let l = count_by-cons (is_blank_of j) b blanks in
        grind (arith, count_by-cons (is_blank_of j) b (without_blank k blanks))
  ]

-- ---- all places

places-count : (ks : List Kind) (blanks : List Blank) (past : ℕ) → AreEnough ks blanks → (m : ℕ)
    → place_count (places_for ks blanks past) m ≤ node_count blanks m
places-count [] blanks past h m = grind arith
places-count (k ∷ ks) blanks past h m = let own : count_by (λ (j : Kind). same_kind j k) (k ∷ ks) ≡
    1 + count_by (λ (j : Kind). same_kind j k) ks = count-yes (λ (j : Kind). same_kind j k) k ks
    (eq-eqb (kind_place k) (kind_place k) refl) in let here : 1 ≤ count_by (is_blank_of k) blanks =
    (let e = h k in omega (arith, e, own)) in
    let rest : AreEnough ks (without_blank k blanks) = (λ j. let e = h j in
    let l = count_by-cons (λ (i : Kind). same_kind i j) k ks in
    let r = kind-taken k blanks here j in omega (arith, e, l, r)) in
    let more = places-count ks (without_blank k blanks) (suc past) rest m in
    let l = count_by-cons (λ (i : ℕ). i == m) (blank_place k blanks past) (places_for ks
    (without_blank k blanks) (suc past)) in grind (arith, node-taken k blanks past here m)

-- each place is the node of a blank, and no two places are that of one
pub blank-places : (wanted : List Kind) (blanks : List Blank) (past : ℕ)
    → find (lacks_blank wanted blanks) all_kinds ≡ None → (m : ℕ)
    → place_count (places_for wanted blanks past) m ≤ node_count blanks m
blank-places wanted blanks past h = places-count wanted blanks past (are-enough wanted blanks h)

-- ---- counts of places

pub is-counted : {A : Type 0} (test : A → Bool) (xs : List A) → list_any test xs ≡ true
    → 1 ≤ count_by test xs
is-counted test [] h = absurd (cc)
is-counted test (x ∷ xs) h = elim (cases_Bool (test x)) [
  | inl on ↦ omega (arith, count-yes test x xs on)
  | inr off ↦ let e = count-no test x xs off in grind (arith, off, is-counted test xs (rw off at h))
]

none-counted : {A : Type 0} (test : A → Bool) (xs : List A) → list_any test xs ≡ false
    → count_by test xs ≡ 0
none-counted test [] h = refl
none-counted test (x ∷ xs) h = let both = or_parts (test x) (list_any test xs) h in
    count-no test x xs both.0 ∙ none-counted test xs both.1

pub counted : {A : Type 0} (test : A → Bool) (xs : List A) → 1 ≤ count_by test xs
    → list_any test xs ≡ true
counted test xs h = grind (arith, cases_Bool, list_any, none-counted)

-- where each number is counted once at most, none stands twice
pub counted-once : (places : List ℕ) → ((m : ℕ) → place_count places m ≤ 1) → AreOnce places
counted-once [] h = λ i j li lj e. absurd (omega (arith, li))
counted-once (p ∷ places) h = AreOnce-append (λ n. n ≡ p) (p ∷ []) places (λ i j li lj e.
    omega (arith, li, lj)) (counted-once places (λ m.
    omega (arith, h m, count_by-cons (λ (k : ℕ). k == m) p places))) (λ j lt.
    let first : 0 ≡ j = omega (arith, lt) in rw (← first) refl) (λ y lt same. let there = is-counted
    (λ (k : ℕ). k == p) places (list_any_at (λ (k : ℕ). k == p) places y 0 lt (eq-eqb _ _ same)) in
    absurd (omega (arith, there, h p, count-yes (λ (k : ℕ). k == p) p places (eq-eqb p p refl))))

-- ---- blanks by their numbers

last-count : (blanks : List Blank) (t : Bool) (b : Blank) (m : ℕ) → node_count (blanks ++ cond t []
    (b ∷ [])) m ≡ node_count blanks m + cond t 0 (cond (b.node == m) 1 0)
last-count blanks true b m = rw append-nil (omega arith)
last-count blanks false b m = grind (arith, count_by-append, node_count, count_by-cons)

cond-zero : (t : Bool) (n : ℕ) → n + cond t 0 0 ≡ n
cond-zero true n = omega arith
cond-zero false n = omega arith

-- how often blanks have the node m: once at most, and then it is one of so many, and unborn
pub record CountsBlanks (boxes : List BoxPicture) (e : List Birth) (first count m : ℕ) : Type 0
  where
    pub once : node_count (blanks_of boxes e first count) m ≤ 1
    pub within : 1 ≤ node_count (blanks_of boxes e first count) m
        → (first ≤ m) × (m < first + count)
    pub unborn : 1 ≤ node_count (blanks_of boxes e first count) m
        → (is_place e m ≡ false) × (is_some (box_at boxes m).spec ≡ false)

-- each blank after births is counted so
pub blanks-count : (boxes : List BoxPicture) (e : List Birth) (first count m : ℕ)
    → CountsBlanks boxes e first count m
blanks-count boxes e first zero m = grind (arith)
blanks-count boxes e first (suc count) m = let h = blanks-count boxes e first count m in
    let n : ℕ = first + count in
    let some = last-count (blanks_of boxes e first count) (is_place e n || is_some (box_at boxes
    n).spec) (record { node = n; kind = (box_at boxes n).kind }) m in elim (cases_eq n m) [
      | inr other ↦ let same : node_count (blanks_of boxes e first (suc count)) m ≡ node_count
          (blanks_of boxes e first count) m = some ∙ rw (ne_eqb n m other) (cond-zero _ _) in
          grind (arith, h.once, h.within, h.unborn)
      | inl here ↦ let none : node_count (blanks_of boxes e first count) m ≡ 0 =
          grind (arith, cases_lt 0 (node_count (blanks_of boxes e first count) m), h.within) in
          elim (cases_Bool (is_place e n || is_some (box_at boxes n).spec)) [
            | inl on ↦ grind (arith)
            | inr off ↦ let all : node_count (blanks_of boxes e first (suc count)) m ≡ 1 = some ∙
                rw (off, eq-eqb n m here) (omega (arith, none)) in record {
                  once = omega (arith, all);
                  within = λ c. (omega (arith, here), omega (arith, here));
                  unborn = λ c. rw (← here) (or_parts _ _ off);
                }
          ]
    ]
