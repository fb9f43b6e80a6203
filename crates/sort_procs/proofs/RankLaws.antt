-- A lower rank is that of a row that comes before, so that places sorted by ranks and keys are
-- those of the rows in order.
use Rattle.std.proofs.Common.{◌≡◌, ◌≢◌, ◌⊎◌, ℕ, zero, suc, ◌+◌, ◌-◌, ◌*◌, ◌^◌, ◌<◌, ◌≤◌, ◌==◌, ◌&&◌, ◌||◌, leb, min, not, Bool, true, false, cond, List, [], ◌∷◌, length, map, get_or, drop, take, ◌++◌, refl, sym, ap, ap₂, subst, ◌∙◌, arith, inl, inr, IsPermutation, IsSorted, append_assoc}
use Rattle.sort_procs.proofs.Imports.{AgreeOnKey, All, All-append, All-cons, All-drop, All-map, All-permutation, All-take, AllByRecursion, AreBytes, AreRanks, ColumnType, Equal, FitsType, FitsTypes, FitsTypes-at, Greater, HasRanks, HasValueRank, Int, IsKeyRank, IsPermutation-append_left, IsPermutation-append_right, IsPermutation-trans, IsRank, IsSortedBy, IsSplit, IsStrictWeakOrder, IsTable, IsTotalOrder, Less, Null, Ordering, PutsFront, PutsMore, Ranked, Row, SortKey, Table, Text, UInt, Value, any_order, before_null, bool_cmp, bool_cmp_total, byte_weight, bytes_told, cases_lt, common_steps, count_up, descending_values, drop-append_seam, drop-drop, every-permuted, get_or-drop, get_or-map, get_or-take, get_or_default, get_or_past, in_direction, ints, is_exact, is_exact_value, is_lt, is_null, is_ranked_before, key_cmp, key_rank, keys_left, keys_tied, last_rank, le-leb, length-FitsTypes, length-append, length-drop, length-map, length-take, length_permutation, lt-leb, map-append, map-map, min-eq_left, min-eq_right, min-le_left, min-le_right, mul-le-mul_right, nat_cmp, nat_cmp_total, null_rank, nulls_tie, on_total, or_null, order-from_sorted, order-joined, ordered-order, ordered-same, ordering_reverse, ordering_then, place_cmp, ranked_cmp, ranked_place, ranks_by, recursion_from_All, row_at, row_cmp, row_cmp_total, rows-ordered, rows_at, sorted-from_order, take-append-drop, take-append_seam, take_all, take_more, text_cmp, text_rank, then_total, tied_itself, type_at, value_at, value_behind, value_cmp, value_cmp_total, value_rank}
use Rattle.sort_procs.proofs.TextRanks.{nat-less, nat-same, rank-below, texts-less, texts-rest, texts-same, weight-some}
use Rattle.chunk_data.specs.declared.typed_value.ColumnType.TheVariants as column

-- ---- values and rows

-- rows of the types, which have the columns of the keys
pub record FitOneType (types : List ColumnType) (keys : List SortKey) (a b : Row) : Type 0 where
  pub one : FitsTypes types a
  pub other : FitsTypes types b
  pub within : All (λ (key : SortKey). key.column < length types) keys

-- the same of the keys behind the first
behind-first : (types : List ColumnType) (keys : List SortKey) (a b : Row)
    → FitOneType types keys a b → FitOneType types (drop 1 keys) a b
behind-first types keys a b h = record {
  one = h.one;
  other = h.other;
  within = All-drop (λ (key : SortKey). key.column < length types) 1 keys h.within;
}

first-fits : (types : List ColumnType) (key : SortKey) (row : Row) → FitsTypes types row
    → key.column < length types → FitsType (type_at types key.column) (value_at row key.column)
first-fits types key row h lt =
    let long = length-FitsTypes types row h in
    FitsTypes-at types row key.column column.Text (Text []) h (omega (arith, long, lt))

-- values that aren't NULL and have ranks
record AreValid (t : ColumnType) (v w : Value) : Type 0 where
  one : FitsType t v
  other : FitsType t w
  one_has : HasValueRank v
  other_has : HasValueRank w
  one_valid : is_null v ≡ false
  other_valid : is_null w ≡ false

valid-less : (t : ColumnType) (v w : Value) → AreValid t v w → value_rank v < value_rank w
    → value_cmp v w ≡ Less
valid-less t v w h lt = grind (arith, nat-less, texts-less, ints)

valid-same : (t : ColumnType) (v w : Value) → AreValid t v w → value_rank v ≡ value_rank w
    → is_exact_value t (value_rank v) ≡ true → value_cmp v w ≡ Equal
valid-same t v w h e exact =
    grind (arith, texts-same, ints, tied_itself, value_cmp_total)

turned-over : (t : ColumnType) (v w : Value) → AreValid t v w → AreValid t w v
turned-over t v w h = record {
  one = h.other;
  other = h.one;
  one_has = h.other_has;
  other_has = h.one_has;
  one_valid = h.other_valid;
  other_valid = h.one_valid;
}

text-below : (bytes : List ℕ) → AreBytes 7 bytes → text_rank 7 bytes < 2 ^ 63
unfolding byte_weight
text-below bytes h = let below = rank-below 7 bytes h in omega (arith, below)

rank-within : (v : Value) → HasValueRank v → value_rank v < 2 ^ 64
rank-within (Int z) h = h.1
rank-within (UInt n) h = h
rank-within (Text bytes) h = let below = text-below bytes h in omega (arith, below)
rank-within Null h = omega arith

-- ---- ranks of keys

min-less : (a b m : ℕ) → min a m < min b m → a < b
min-less a b m lt = elim (cases_lt a b) [
  | inl less ↦ less
  | inr le ↦ absurd (elim (cases_lt a m) [
    | inl short ↦ let p = min-le_left b m in
        let q : min a m ≡ a = min-eq_left (omega (arith, short)) in omega (arith, lt, p, q, le)
    | inr long ↦ let p = min-le_right b m in
        let q : min a m ≡ m = min-eq_right long in omega (arith, lt, p, q)
  ])
]

min-same : (a b m : ℕ) → min a m ≡ min b m → min a m ≢ m → a ≡ b
min-same a b m e ne = elim (cases_lt a m) [
  | inl short ↦ elim (cases_lt b m) [
    | inl few ↦ sym (min-eq_left (omega (arith, short))) ∙ e ∙ min-eq_left (omega (arith, few))
    | inr many ↦ absurd (ne (e ∙ min-eq_right many))
  ]
  | inr long ↦ absurd (ne (min-eq_right long))
]

abbrev turned_rank : Bool → Value → ℕ
turned_rank d v = in_direction d (value_rank v)

-- the rank of a value that isn't NULL is before that of NULL
valid-rank : (d : Bool) (v : Value) → is_null v ≡ false
    → key_rank d v ≡ min (turned_rank d v) last_rank
valid-rank d v e = rw e refl

rank-of-null : (d : Bool) (v : Value) (r : ℕ) → IsKeyRank d v r → is_null v ≡ true → r ≡ null_rank
rank-of-null d v r h e = h.is ∙ rw e refl

valid-before : (d : Bool) (v : Value) (r : ℕ) → IsKeyRank d v r → is_null v ≡ false → r ≤ last_rank
valid-before d v r h e =
    let is = h.is ∙ valid-rank d v e in
    let few = min-le_right (turned_rank d v) last_rank in omega (arith, is, few)

keys-of-valid : (t : ColumnType) (d : Bool) (v w : Value) → AreValid t v w
    → turned_rank d v < turned_rank d w → key_cmp d v w ≡ Less
keys-of-valid t false v w h lt = valid-less t v w h lt
keys-of-valid t true v w h lt =
    let p = rank-within v h.one_has in
    let q = rank-within w h.other_has in
    descending_values v w h.one_valid h.other_valid
    ∙ ap ordering_reverse (value_cmp_total.antisymm v w
    ∙ ap ordering_reverse (valid-less t w v (turned-over t v w h) (omega (arith, p, q, lt))))

keys-less : (t : ColumnType) (d : Bool) (v w : Value) (r s : ℕ) → FitsType t v → FitsType t w
    → IsKeyRank d v r → IsKeyRank d w s → r < s → key_cmp d v w ≡ Less
keys-less t d v w r s f g h k lt = by (is_null v) (is_null w) refl refl
  where
    null-one : (w : Value) → is_null w ≡ true → w ≡ Null
    null-one w i = grind arith

    by : (a b : Bool) → is_null v ≡ a → is_null w ≡ b → key_cmp d v w ≡ Less
    by true true e i = absurd (let p = rank-of-null d v r h e in
        let q = rank-of-null d w s k i in omega (arith, p, q, lt))
    by true false e i = absurd (let p = rank-of-null d v r h e in
        let q = valid-before d w s k i in omega (arith, p, q, lt))
    by false true e i = ap (key_cmp d v) (null-one w i) ∙ before_null d v e
    by false false e i =
        let p = h.is ∙ valid-rank d v e in
        let q = k.is ∙ valid-rank d w i in
        keys-of-valid t d v w (record {
          one = f;
          other = g;
          one_has = h.has;
          other_has = k.has;
          one_valid = e;
          other_valid = i;
        }) (min-less (turned_rank d v) (turned_rank d w) last_rank (omega (arith, p, q, lt)))

key-turned : (d : Bool) (v w : Value) → key_cmp d v w ≡ ordering_reverse (key_cmp d w v)
key-turned d v w = grind (arith, value_cmp_total)

-- one rank in a direction is that of one rank
one-rank : (d : Bool) (v w : Value) → HasValueRank v → HasValueRank w
    → turned_rank d v ≡ turned_rank d w → value_rank v ≡ value_rank w
one-rank false v w h k e = e
one-rank true v w h k e =
    let p = rank-within v h in
    let q = rank-within w k in
    omega (arith, p, q, e)

in_direction-twice : (d : Bool) (r : ℕ) → r < 2 ^ 64 → in_direction d (in_direction d r) ≡ r
in_direction-twice false r lt = refl
in_direction-twice true r lt = omega (arith, lt)

keys-same : (t : ColumnType) (d : Bool) (v w : Value) (r : ℕ) → FitsType t v → FitsType t w
    → IsKeyRank d v r → IsKeyRank d w r
    → ((r == null_rank) || (not (r == last_rank) && is_exact_value t (in_direction d r))) ≡ true
    → key_cmp d v w ≡ Equal
keys-same t d v w r f g h k exact = by (is_null v) (is_null w) refl refl
  where
    null-one : (w : Value) → is_null w ≡ true → w ≡ Null
    null-one w i = grind arith

    tied : (d : Bool) → value_cmp v w ≡ Equal → is_null v ≡ false → is_null w ≡ false
        → key_cmp d v w ≡ Equal
    tied false same e i = same
    tied true same e i = descending_values v w e i ∙ ap ordering_reverse same

    -- before the last rank it is that of the value
    turned : r ≢ last_rank → r ≡ min (turned_rank d v) last_rank → turned_rank d v ≡ r
    turned ne p = elim (cases_lt (turned_rank d v) last_rank) [
      | inl lt ↦ sym (p ∙ min-eq_left (omega (arith, lt)))
      | inr le ↦ absurd (ne (p ∙ min-eq_right le))
    ]

    told : r ≤ last_rank → (r ≢ last_rank) × (is_exact_value t (in_direction d r) ≡ true)
    told few = grind (arith, common_steps)

    by : (a b : Bool) → is_null v ≡ a → is_null w ≡ b → key_cmp d v w ≡ Equal
    by true true e i = ap₂ (key_cmp d) (null-one v e) (null-one w i) ∙ nulls_tie d
    by true false e i = absurd (let p = rank-of-null d v r h e in
        let q = valid-before d w r k i in omega (arith, p, q))
    by false true e i = absurd (let p = rank-of-null d w r k i in
        let q = valid-before d v r h e in omega (arith, p, q))
    by false false e i =
        let p = h.is ∙ valid-rank d v e in
        let q = k.is ∙ valid-rank d w i in
        let ends = told (valid-before d v r h e) in
        let one = min-same (turned_rank d v) (turned_rank d w) last_rank (sym p ∙ q)
        (λ z. ends.0 (p ∙ z)) in
        let rank : in_direction d r ≡ value_rank v =
        ap (in_direction d) (sym (turned ends.0 p))
        ∙ in_direction-twice d (value_rank v) (rank-within v h.has) in
        tied d (valid-same t v w (record {
          one = f;
          other = g;
          one_has = h.has;
          other_has = k.has;
          one_valid = e;
          other_valid = i;
        }) (one-rank d v w h.has k.has one)
        (subst (λ x. is_exact_value t x ≡ true) rank ends.1)) e i

-- values of one rank compare as what follows the bytes that it tells
values-rest : (v w : Value) (n : ℕ) → HasValueRank (value_behind n v)
    → HasValueRank (value_behind n w)
    → value_rank (value_behind n v) ≡ value_rank (value_behind n w)
    → value_cmp (value_behind (n + 7) v) (value_behind (n + 7) w)
    ≡ value_cmp (value_behind n v) (value_behind n w)
values-rest (Text a) (Text b) n h k e = rw (sym (drop-drop 7 n a), sym (drop-drop 7 n b))
    (texts-rest 7 (drop n a) (drop n b) h k e)
values-rest (Int a) w n h k e = grind arith
values-rest (UInt a) w n h k e = grind arith
values-rest Null w n h k e = grind arith
values-rest (Text a) w n h k e = grind arith

-- a text of one of the two lowest ranks has none of these bytes
low-text : (n : ℕ) (bytes : List ℕ) → text_rank (suc n) bytes ≤ 1 → text_rank (suc n) bytes ≡ 0
unfolding text_rank
low-text n [] le = refl
low-text n (x ∷ bytes) le =
    let some = weight-some n in
    let more : 1 * byte_weight n ≤ suc x * byte_weight n =
    mul-le-mul_right (byte_weight n) (omega arith) in
    absurd (omega (arith, some, more, le))

-- texts of one rank of a key have one rank
texts-one : (d : Bool) (a b : List ℕ) → AreBytes 7 a → AreBytes 7 b
    → min (in_direction d (text_rank 7 a)) last_rank
    ≡ min (in_direction d (text_rank 7 b)) last_rank → text_rank 7 a ≡ text_rank 7 b
texts-one false a b h k e =
    let p = text-below a h in
    let q = text-below b k in
    sym (min-eq_left (omega (arith, p))) ∙ e ∙ min-eq_left (omega (arith, q))
texts-one true a b h k e = elim (cases_lt (text_rank 7 a) 2) [
  | inl low ↦ elim (cases_lt (text_rank 7 b) 2) [
    | inl less ↦ low-text 6 a (omega (arith, low)) ∙ sym (low-text 6 b (omega (arith, less)))
    | inr high ↦ let z : min (in_direction true (text_rank 7 b)) last_rank
        ≡ in_direction true (text_rank 7 b) = min-eq_left (omega (arith, high)) in
        let y : min (in_direction true (text_rank 7 a)) last_rank ≡ last_rank =
        min-eq_right (omega (arith, low)) in
        let q = text-below b k in absurd (omega (arith, z, y, e, high, q))
  ]
  | inr high ↦ let z : min (in_direction true (text_rank 7 a)) last_rank
      ≡ in_direction true (text_rank 7 a) = min-eq_left (omega (arith, high)) in
      let p = text-below a h in
      let q = text-below b k in elim (cases_lt (text_rank 7 b) 2) [
        | inl less ↦ let y : min (in_direction true (text_rank 7 b)) last_rank ≡ last_rank =
            min-eq_right (omega (arith, less)) in absurd (omega (arith, z, y, e, high, p))
        | inr more ↦ let y : min (in_direction true (text_rank 7 b)) last_rank
            ≡ in_direction true (text_rank 7 b) = min-eq_left (omega (arith, more)) in
            omega (arith, z, y, e, p, q)
      ]
]

keys-rest : (d : Bool) (v w : Value) (n r : ℕ) → IsKeyRank d (value_behind n v) r
    → IsKeyRank d (value_behind n w) r
    → key_cmp d (value_behind (n + 7) v) (value_behind (n + 7) w)
    ≡ key_cmp d (value_behind n v) (value_behind n w)
keys-rest d (Text a) (Text b) n r h k =
    let same = values-rest (Text a) (Text b) n h.has k.has
    (texts-one d (drop n a) (drop n b) h.has k.has (sym h.is ∙ k.is)) in
    by d same
  where
    by : (d : Bool) → text_cmp (drop (n + 7) a) (drop (n + 7) b) ≡ text_cmp (drop n a) (drop n b)
        → key_cmp d (Text (drop (n + 7) a)) (Text (drop (n + 7) b))
        ≡ key_cmp d (Text (drop n a)) (Text (drop n b))
    by false e = e
    by true e = ap ordering_reverse e
keys-rest d v w n r h k = grind arith

-- ---- what the code makes

pub rank_of_valid : (descending : Bool) (told : ℕ) (v w : Value) (valid : Bool) (r s : ℕ)
    → w ≡ or_null valid v → valid ≡ true → is_null v ≡ false → r ≡ value_rank (value_behind told v)
    → HasValueRank (value_behind told v) → s ≡ min (in_direction descending r) last_rank
    → IsKeyRank descending (value_behind told w) s
rank_of_valid descending told v w valid r s is true_is plain e has f = grind (arith, common_steps)

pub rank_of_null : (descending : Bool) (told : ℕ) (v w : Value) (valid : Bool)
    → w ≡ or_null valid v → valid ≡ false → IsKeyRank descending (value_behind told w) null_rank
rank_of_null descending told v w valid is false_is = grind (arith, common_steps)

-- so many bytes of the text of the first key are the same in both rows, so that they compare by
-- what follows these
abbrev AreTold : List SortKey → (told : ℕ) → Row → Row → Type 0
AreTold [] told a b = Unit {0}
AreTold (key ∷ keys) told a b =
    key_cmp key.descending (value_behind told (value_at a key.column))
    (value_behind told (value_at b key.column))
    ≡ key_cmp key.descending (value_at a key.column) (value_at b key.column)

none-told : (keys : List SortKey) (a b : Row) → AreTold keys 0 a b
none-told keys a b = grind arith

behind-fits : (types : List ColumnType) (key : SortKey) (told : ℕ) (row : Row)
    → FitsTypes types row → key.column < length types
    → FitsType (type_at types key.column) (value_behind told (value_at row key.column))
behind-fits types key told row h lt =
    by (value_at row key.column) (first-fits types key row h lt)
  where
    by : (v : Value) → FitsType (type_at types key.column) v
        → FitsType (type_at types key.column) (value_behind told v)
    by (Int z) f = f
    by (UInt n) f = f
    by (Text bytes) f = f
    by Null f = f

-- rows of unequal ranks compare as these do
rows-differ : (types : List ColumnType) (keys : List SortKey) (told : ℕ) (a b : Row) (r s : ℕ)
    → FitOneType types keys a b → AreTold keys told a b → IsRank keys told a r
    → IsRank keys told b s
    → (r < s → row_cmp keys a b ≡ Less) × (s < r → row_cmp keys a b ≡ Greater)
unfolding row_cmp
rows-differ types [] told a b r s f t h k =
    (λ lt. absurd (omega (arith, h, k, lt)), λ lt. absurd (omega (arith, h, k, lt)))
rows-differ types (key ∷ keys) told a b r s f t h k =
    let here : key.column < length types = let w = f.within in w 0 key (omega arith) in
    let kind = type_at types key.column in
    let d = key.descending in
    let v = value_behind told (value_at a key.column) in
    let w = value_behind told (value_at b key.column) in
    let fv = behind-fits types key told a f.one here in
    let fw = behind-fits types key told b f.other here in (
      λ lt. rw (sym t ∙ keys-less kind d v w r s fv fw h k lt) refl,
      λ lt. rw (sym t ∙ key-turned d v w
          ∙ ap ordering_reverse (keys-less kind d w v s r fw fv k h lt)) refl,
    )

-- rows that tie at a rank: they compare by the keys that are left, of which so many bytes are told
record TieAt (types : List ColumnType) (keys left : List SortKey) (told : ℕ) (a b : Row)
    : Type 0 where
  pub fits : FitOneType types left a b
  pub alike : AreTold left told a b
  pub same : row_cmp left a b ≡ row_cmp keys a b

ranks-tie : (types : List ColumnType) (keys : List SortKey) (told : ℕ) (a b : Row) (r : ℕ)
    → FitOneType types keys a b → AreTold keys told a b → IsRank keys told a r
    → IsRank keys told b r
    → TieAt types keys (keys_left types keys r) (bytes_told types keys told r) a b
unfolding row_cmp
ranks-tie types [] told a b r f t h k = record { fits = f; alike = tt; same = refl }
ranks-tie types (key ∷ keys) told a b r f t h k = by (is_exact types (key ∷ keys) r) refl
  where
    here : key.column < length types
    here = let w = f.within in w 0 key (omega arith)

    by : (e : Bool) → is_exact types (key ∷ keys) r ≡ e
        → TieAt types (key ∷ keys) (cond e keys (key ∷ keys)) (cond e 0 (told + 7)) a b
    by true e = record {
      fits = behind-first types (key ∷ keys) a b f;
      alike = none-told keys a b;
      same = ap (λ o. ordering_then o (row_cmp keys a b))
          (sym (sym t ∙ keys-same (type_at types key.column) key.descending
          (value_behind told (value_at a key.column)) (value_behind told (value_at b key.column)) r
          (behind-fits types key told a f.one here) (behind-fits types key told b f.other here)
          h k e));
    }
    by false e = record {
      fits = f;
      alike = keys-rest key.descending (value_at a key.column) (value_at b key.column) told r h k
          ∙ t;
      same = refl;
    }

-- a rank tells what the keys do, where for the same rank the keys that are left do
rank-tells : (types : List ColumnType) (keys : List SortKey) (told : ℕ) (a b : Row) (r s : ℕ)
    (o : Ordering) → FitOneType types keys a b → AreTold keys told a b → IsRank keys told a r
    → IsRank keys told b s
    → (r ≡ s → TieAt types keys (keys_left types keys r) (bytes_told types keys told r) a b
    → o ≡ row_cmp (keys_left types keys r) a b)
    → ordering_then (nat_cmp r s) o ≡ row_cmp keys a b
rank-tells types keys told a b r s o f t h k tied =
    let differ = rows-differ types keys told a b r s f t h k in
    elim (cases_lt r s) [
      | inl lt ↦ rw (nat-less r s lt) (sym (differ.0 lt))
      | inr le ↦ elim (cases_lt s r) [
        | inl lt ↦ rw (nat_cmp_total.antisymm r s, nat-less s r lt) (sym (differ.1 lt))
        | inr ge ↦
            let e : r ≡ s = omega (arith, le, ge) in
            let tie = ranks-tie types keys told a b r f t h
            (subst (IsRank keys told b) (sym e) k) in
            rw (sym e) (rw (nat-same r) (tied e tie ∙ tie.same))
      ]
    ]

-- all ranks tell what the keys do, where the keys at which rows of them may differ do
row_ranks_tell : (types : List ColumnType) (keys : List SortKey) (x y : Row) (a b : Ranked)
    (o : Ordering) → FitOneType types keys x y → AreRanks types keys x a
    → AreRanks types keys y b → o ≡ row_cmp (keys_tied types keys a) x y
    → ordering_then (nat_cmp a.first b.first) (ordering_then (nat_cmp a.second b.second) o)
    ≡ row_cmp keys x y
row_ranks_tell types keys x y a b o f h g tied =
    rank-tells types keys 0 x y a.first b.first _ f (none-told keys x y) h.first g.first
    (λ e one. rank-tells types (left a.first) (told a.first) x y a.second b.second _ one.fits
    one.alike h.second
    (subst (λ n. IsRank (left n) (told n) y b.second) (sym e) g.second)
    (λ i two. tied))
  where
    left : ℕ → List SortKey
    left n = keys_left types keys n

    told : ℕ → ℕ
    told n = bytes_told types keys 0 n

-- ranks that were found in turn
pub has_ranks : (t : Table) (keys behind : List SortKey) (r : Ranked) (n : ℕ)
    → r.place < length t.rows → IsRank keys 0 (row_at t.rows r.place) r.first
    → behind ≡ keys_left t.types keys r.first → n ≡ bytes_told t.types keys 0 r.first
    → IsRank behind n (row_at t.rows r.place) r.second → HasRanks t keys r
has_ranks t keys behind r n within first b p second = record {
  within = within;
  ranks = record { first = first; second = rw (sym b, sym p) second };
}

-- ---- the order by which places are sorted

-- by a number, and where it is the same by an order of its own
module _ {A : Type 0} (f : A → ℕ) (R : ℕ → A → A → Ordering) where
  abbrev given : A → A → Ordering
  given a b = ordering_then (nat_cmp (f a) (f b)) (R (f a) a b)

  given-less : (a b : A) → f a < f b → given a b ≡ Less
  given-less a b lt = rw (nat-less (f a) (f b) lt) refl

  given-more : (a b : A) → f b < f a → given a b ≡ Greater
  given-more a b lt = rw (nat_cmp_total.antisymm (f a) (f b), nat-less (f b) (f a) lt) refl

  given-same : (a b : A) → f a ≡ f b → given a b ≡ R (f a) a b
  given-same a b e = rw (sym e) (rw (nat-same (f a)) refl)

  -- what stands before another has a lower number, or the same one
  given-cases : (a b : A) → given a b ≡ Less
      → (f a < f b) ⊎ ((f a ≡ f b) × (R (f a) a b ≡ Less))
  given-cases a b h = elim (cases_lt (f a) (f b)) [
    | inl lt ↦ inl lt
    | inr le ↦ elim (cases_lt (f b) (f a)) [
      | inl lt ↦ absurd (let more = given-more a b lt in cc)
      | inr ge ↦
          let e : f a ≡ f b = omega (arith, le, ge) in
          inr (e, sym (given-same a b e) ∙ h)
    ]
  ]

  -- by a number, and where it is the same by an order of its own
  given-total : ((n : ℕ) → IsTotalOrder (R n)) → IsTotalOrder given
  given-total o = record {
    antisymm = λ a b. elim (cases_lt (f a) (f b)) [
      | inl lt ↦ given-less a b lt ∙ ap ordering_reverse (sym (given-more b a lt))
      | inr le ↦ elim (cases_lt (f b) (f a)) [
        | inl lt ↦ given-more a b lt ∙ ap ordering_reverse (sym (given-less b a lt))
        | inr ge ↦
            let e : f a ≡ f b = omega (arith, le, ge) in
            let t = o (f a) in
            given-same a b e ∙ t.antisymm a b ∙ ap ordering_reverse
            (sym (given-same b a (sym e) ∙ ap (λ n. R n b a) (sym e)))
      ]
    ];
    trans = λ a b c h k.
        let one = given-cases a b h in
        let other = given-cases b c k in
        grind (arith, one, other, given-less a c, given-same a c, o);
    congr = λ a b c h. elim (cases_lt (f a) (f b)) [
      | inl lt ↦ absurd (let less = given-less a b lt in cc)
      | inr le ↦ elim (cases_lt (f b) (f a)) [
        | inl lt ↦ absurd (let more = given-more a b lt in cc)
        | inr ge ↦
            let e : f a ≡ f b = omega (arith, le, ge) in
            let t = o (f a) in
            ap (ordering_then (nat_cmp (f a) (f c)))
            (t.congr a b c (sym (given-same a b e) ∙ h))
            ∙ ap (λ n. ordering_then (nat_cmp n (f c)) (R n b c)) e
      ]
    ];
  }

pub ranked_total : (t : Table) (keys : List SortKey) → IsTotalOrder (ranked_cmp t t keys)
ranked_total t keys =
    given-total (λ (r : Ranked). r.first)
    (λ n a b. ordering_then (nat_cmp a.second b.second) (by_place n a.second a b))
    (λ n. given-total (λ (r : Ranked). r.second) (by_place n)
    (λ m. on_total ranked_place (then_total (on_total (λ i. leb (length t.rows) i) bool_cmp_total)
    (on_total (row_at t.rows) (row_cmp_total (tied n m))))))
  where
    tied : ℕ → ℕ → List SortKey
    tied n m = keys_left t.types (keys_left t.types keys n) m

    by_place : ℕ → ℕ → Ranked → Ranked → Ordering
    by_place n m a b = place_cmp (tied n m) t.rows t.rows a.place b.place

-- ranks and then the keys that are left tell what the keys do, of rows of two tables
pub ranks_tell : (t u : Table) (keys : List SortKey) → IsTable t → IsTable u
    → t.types ≡ u.types → All (λ (key : SortKey). key.column < length t.types) keys
    → (a b : Ranked) → HasRanks t keys a → HasRanks u keys b
    → ranked_cmp t u keys a b ≡ row_cmp keys (row_at t.rows a.place) (row_at u.rows b.place)
ranks_tell t u keys fit other types within a b h g =
    row_ranks_tell t.types keys x y a b _
    (record {
      one = fit a.place [] h.within;
      other = subst (λ l. FitsTypes l y) (sym types) (other b.place [] g.within);
      within = within;
    }) h.ranks (subst (λ l. AreRanks l keys y b) (sym types) g.ranks)
    (places-tell (keys_tied t.types keys a))
  where
    x : Row
    x = row_at t.rows a.place

    y : Row
    y = row_at u.rows b.place

    -- places that are there compare as the rows do
    places-tell : (k : List SortKey) → place_cmp k t.rows u.rows a.place b.place ≡ row_cmp k x y
    places-tell k = grind (arith, lt-leb, h.within, g.within)

-- the rows at all places, in order
all-places : (rows : List Row) (k : ℕ) → k ≤ length rows
    → map (row_at rows) (count_up k) ≡ take k rows
unfolding count_up
all-places rows zero le = refl
all-places rows (suc k) le =
    grind (arith, map-append, take_more, all-places rows k (omega (arith, le)))

-- all places in their own order
pub rows-same : (t : Table) (ranks : List Ranked) → map ranked_place ranks
    ≡ count_up (length t.rows) → rows_at t.rows ranks ≡ t.rows
rows-same t ranks places =
    sym (map-map (row_at t.rows) ranked_place ranks) ∙ ap (map (row_at t.rows)) places
    ∙ all-places t.rows (length t.rows) (omega arith)
    ∙ take_all (length t.rows) t.rows (omega arith)

module _ (t : Table) (keys : List SortKey) where
  abbrev pub before : Ranked → Ranked → Bool
  before a b = is_ranked_before t keys a b

  pub before-order : IsStrictWeakOrder before
  before-order = ranks_by (ranked_total t keys) (λ (r : Ranked). r)

  -- ranks that were moved to the front of the first i: each is before the pivot, and no other is
  pub record MovesFront (pivot : Ranked) (i count : ℕ) (old new : List Ranked) : Type 0 where
    pub same : IsPermutation old new
    pub long : length new ≡ length old
    pub few : count ≤ i
    pub front : (k : ℕ) (d : Ranked) → k < count → before (get_or new k d) pivot ≡ true
    pub behind : (k : ℕ) (d : Ranked) → count ≤ k → k < i → before (get_or new k d) pivot ≡ false

  -- a rank that is before the pivot goes to the front
  pub front-moved : (pivot : Ranked) (i count : ℕ) (old mid new : List Ranked)
      → MovesFront pivot i count old mid → i < length mid
      → true ≡ before (get_or mid i pivot) pivot → IsPermutation mid new → length new ≡ length mid
      → ((d : Ranked) → get_or new i d ≡ get_or mid count d)
      → ((d : Ranked) → get_or new count d ≡ get_or mid i d)
      → ((k : ℕ) (d : Ranked) → k ≢ i → k ≢ count → get_or new k d ≡ get_or mid k d)
      → MovesFront pivot (i + 1) (count + 1) old new
  front-moved pivot i count old mid new h lt e swaps len one other rest = record {
    same = IsPermutation-trans _ _ _ h.same swaps;
    long = len ∙ h.long;
    few = let few = h.few in omega (arith, few);
    front = λ k d less. elim (cases_lt k count) [
      | inl lt ↦
          ap (λ r. before r pivot) (rest k d (λ z. let f = h.few in omega (arith, f, lt, z))
          (λ z. omega (arith, lt, z))) ∙ h.front k d lt
      | inr le ↦
          let z : count ≡ k = omega (arith, less, le) in
          subst (λ m. before (get_or new m d) pivot ≡ true) z
          (ap (λ r. before r pivot) (other d ∙ get_or_default mid i d pivot lt) ∙ sym e)
    ];
    behind = λ k d low high. elim (cases_lt k i) [
      | inl lt ↦
          ap (λ r. before r pivot) (rest k d (λ z. omega (arith, lt, z))
          (λ z. omega (arith, low, z))) ∙ h.behind k d (omega (arith, low)) lt
      | inr le ↦
          let z : i ≡ k = omega (arith, high, le) in
          subst (λ m. before (get_or new m d) pivot ≡ false) z
          (ap (λ r. before r pivot) (one d)
          ∙ h.behind count d (omega arith) (omega (arith, low, z)))
    ];
  }

  -- and any other stays
  pub front-stays : (pivot : Ranked) (i count : ℕ) (old new : List Ranked)
      → MovesFront pivot i count old new → i < length new
      → false ≡ before (get_or new i pivot) pivot
      → MovesFront pivot (i + 1) count old new
  front-stays pivot i count old new h here e = record {
    same = h.same;
    long = h.long;
    few = let few = h.few in omega (arith, few);
    front = h.front;
    behind = λ k d low high. elim (cases_lt k i) [
      | inl lt ↦ h.behind k d low lt
      | inr le ↦
          let z : i ≡ k = omega (arith, high, le) in
          subst (λ m. before (get_or new m d) pivot ≡ false) z
          (ap (λ r. before r pivot) (get_or_default new i d pivot here) ∙ sym e)
    ];
  }

  -- where all were looked at, none behind is before one of the front
  pub split-moved : (pivot : Ranked) (i count : ℕ) (old new : List Ranked)
      → MovesFront pivot i count old new → length new ≤ i
      → IsSplit t keys (take count new) (drop count new)
  split-moved pivot i count old new h all k d lt m f less =
      let o = before-order in
      let a = length-drop count new in
      let b = length-take count new in
      rw (get_or-drop count new k d, get_or-take count new m f (omega (arith, b, less)))
      (o.chain (get_or new (count + k) d) pivot (get_or new m f)
      (h.behind (count + k) d (omega arith) (omega (arith, a, lt, all)))
      (o.one_way (get_or new m f) pivot (h.front m f (omega (arith, b, less)))))

  -- what a sort of the front leaves
  pub puts-front : (count : ℕ) (old mid front new : List Ranked) → IsPermutation old mid
      → IsSplit t keys (take count mid) (drop count mid) → count ≤ length mid
      → IsPermutation (take count mid) front → IsSortedBy before front
      → new ≡ front ++ drop count mid → PutsFront t keys count old new
  puts-front count old mid front new same split few sorts sorted e =
      let long : length front ≡ count = (let l = length-take count mid in
      let p = length_permutation _ _ sorts in omega (arith, l, few, p)) in
      let taken : take count new ≡ front = rw (e, sym long) (take-append_seam front _) in
      let rest : drop count new ≡ drop count mid =
      rw (e, sym long) (drop-append_seam front _) in
      record {
        same = IsPermutation-trans _ _ _ same (subst (IsPermutation mid) (sym e)
            (subst (λ l. IsPermutation l (front ++ drop count mid)) (take-append-drop count mid)
            (IsPermutation-append_left (drop count mid) (take count mid) front sorts)));
        sorted = subst (IsSortedBy before) (sym taken) sorted;
        split = rw (taken, rest) (λ k d lt. All-permutation
            (λ a. before (get_or (drop count mid) k d) a ≡ false) (take count mid) front sorts
            (split k d lt));
      }

  -- what was put in order from a place on, as a slice of all leaves it
  pub more-put : (from count n : ℕ) (old x put new b d : List Ranked) → from ≤ length old
      → PutsFront t keys count (take (length x - from) (drop from x)) put
      → new ≡ take n ((take from x ++ (put ++ b)) ++ d) → x ≡ old → n ≡ length old
      → PutsMore t keys from count old new
  more-put from count n old x put new b d few given put-is x-is long =
      let left = length-drop from x in
      let part = take_all (length x - from) (drop from x) (omega (arith, left))
      ∙ ap (drop from) x-is in
      let h = subst (λ l. PutsFront t keys count l put) part given in
      let behind = b ++ d in
      let e : new ≡ take n (take from old ++ (put ++ behind)) = put-is
      ∙ ap (λ l. take n ((take from l ++ (put ++ b)) ++ d)) x-is
      ∙ ap (take n) (append_assoc (take from old) (put ++ b) d)
      ∙ ap (λ l. take n (take from old ++ l)) (append_assoc put b d) in
      let a = length-take from old in
      let c = length-drop from old in
      let p = length_permutation _ _ h.same in
      let whole = length-append (take from old) put in
      let start : length (take from old) ≡ from = omega (arith, a, few) in
      let all : n ≡ length (take from old ++ put) =
      omega (arith, a, c, p, whole, few, long) in
      let is : new ≡ take from old ++ put =
      e ∙ ap (take n) (sym (append_assoc (take from old) put behind))
      ∙ ap (λ m. take m ((take from old ++ put) ++ behind)) all
      ∙ take-append_seam (take from old ++ put) behind in
      record {
        kept = ap (take from) is ∙ ap (λ m. take m (take from old ++ put)) (sym start)
            ∙ take-append_seam (take from old) put;
        puts = subst (PutsFront t keys count (drop from old))
            (sym (ap (drop from) is ∙ ap (λ m. drop m (take from old ++ put)) (sym start)
            ∙ drop-append_seam (take from old) put)) h;
      }

  -- the ranks are as many, and ranks of rows as before
  pub more_same : (from count : ℕ) (old new : List Ranked) → PutsMore t keys from count old new
      → (length new ≡ length old) × (All (HasRanks t keys) old → All (HasRanks t keys) new)
  more_same from count old new h =
      let same : IsPermutation old new =
      subst (λ l. IsPermutation l new) (take-append-drop from old)
      (subst (IsPermutation (take from old ++ drop from old))
      (ap (λ l. l ++ drop from new) (sym h.kept) ∙ take-append-drop from new)
      (IsPermutation-append_right (take from old) (drop from old) (drop from new) h.puts.same)) in (
        length_permutation _ _ same,
        All-permutation (HasRanks t keys) old new same,
      )

  -- the rows at a front that was put, and any order of the others, are in order
  pub front-sorted : (count : ℕ) (old new : List Ranked) → IsTable t
      → All (AgreeOnKey t.types t.types) keys → All (HasRanks t keys) old
      → PutsFront t keys count old new
      → IsSorted (row_cmp keys)
      (rows_at t.rows (take count new) ++ any_order keys (rows_at t.rows (drop count new)))
  front-sorted count old new fit agree ranked h =
      sorted-from_order lt o (xs ++ any_order keys ys)
      (order-joined lt o xs (any_order keys ys) (order-from_sorted lt o xs sorted)
      (ordered-order lt o ys)
      (every-permuted (λ y. AllByRecursion (λ x. lt y x ≡ false) xs) ys (any_order keys ys)
      (ordered-same lt o ys)
      (recursion_from_All _ ys (All-map (λ y. AllByRecursion (λ x. lt y x ≡ false) xs) f
      (drop count new) (λ k d less. recursion_from_All _ xs
      (All-map (λ x. lt (f (get_or (drop count new) k d)) x ≡ false) f (take count new)
      (λ m e few. ap is_lt (sym (tells (get_or (drop count new) k d) (get_or (take count new) m e)
      (behind k d less) (front m e few))) ∙ h.split k d less m e few)))))))
    where
      lt : Row → Row → Bool
      lt a b = is_lt (row_cmp keys a b)

      o : IsStrictWeakOrder lt
      o = rows-ordered keys

      f : Ranked → Row
      f r = row_at t.rows r.place

      xs : List Row
      xs = rows_at t.rows (take count new)

      ys : List Row
      ys = rows_at t.rows (drop count new)

      all : All (HasRanks t keys) new
      all = All-permutation (HasRanks t keys) old new h.same ranked

      front : All (HasRanks t keys) (take count new)
      front = All-take (HasRanks t keys) count new all

      behind : All (HasRanks t keys) (drop count new)
      behind = All-drop (HasRanks t keys) count new all

      tells : (a b : Ranked) → HasRanks t keys a → HasRanks t keys b
          → ranked_cmp t t keys a b ≡ row_cmp keys (f a) (f b)
      tells = ranks_tell t t keys fit fit refl (λ m key less. let both = agree m key less in both.0)

      no_rank : Ranked
      no_rank = record { first = 0; second = 0; place = 0 }

      sorted : IsSortedBy lt xs
      sorted = λ k d low high.
          let part = take count new in
          let long = length-map part f in
          let here : k < length part = omega (arith, long, high) in
          let next : k + 1 < length part = omega (arith, long, high) in
          rw (get_or-map f part k no_rank d here, get_or-map f part (k + 1) no_rank d next)
          (ap is_lt (sym (tells (get_or part (k + 1) no_rank) (get_or part k no_rank)
          (front (k + 1) no_rank next) (front k no_rank here)))
          ∙ h.sorted k no_rank low next)

-- places of which one is past the last row
pub places_out : (keys : List SortKey) (left right : List Row) (i j n m : ℕ) (r : Ordering)
    → n ≡ length left → m ≡ length right → ((i < n) × (m ≤ j)) ⊎ (n ≤ i)
    → r ≡ bool_cmp (leb n i) (leb m j) → r ≡ place_cmp keys left right i j
places_out keys left right i j n m r count other h e = grind
    (arith, cases_lt j m, le-leb, lt-leb, get_or_past, tied_itself (row_cmp_total keys) [])

-- the places of all ranks
pub places-within : (ranks : List Ranked) (n i : ℕ) (places : List ℕ) → length ranks ≤ i
    → places ≡ map ranked_place (take i ranks) → All (λ (r : Ranked). r.place < n) ranks
    → All (λ p. p < n) places
places-within ranks n i places le e h =
    subst (All (λ p. p < n)) (sym (e ∙ ap (map ranked_place) (take_all i ranks le)))
    (All-map (λ p. p < n) ranked_place ranks h)

pub rows-gathered : (rows : List Row) (ranks : List Ranked) (i : ℕ) (places : List ℕ)
    → length ranks ≤ i → places ≡ map ranked_place (take i ranks)
    → map (row_at rows) places ≡ rows_at rows ranks
rows-gathered rows ranks i places le e = grind (arith, take_all, map-map)

pub ranks-none : (t : Table) (keys : List SortKey) (ranks : List Ranked) → ranks ≡ []
    → (map ranked_place ranks ≡ count_up 0) × All (HasRanks t keys) ranks
unfolding count_up
ranks-none t keys ranks e = grind arith

pub ranks-more : (t : Table) (keys : List SortKey) (ranks more : List Ranked) (place : ℕ)
    (r : Ranked) → r.place ≡ place → HasRanks t keys r → more ≡ ranks ++ r ∷ []
    → map ranked_place ranks ≡ count_up place → All (HasRanks t keys) ranks
    → (map ranked_place more ≡ count_up (place + 1)) × All (HasRanks t keys) more
unfolding count_up
ranks-more t keys ranks more place r at is e places all = (
  let next : suc place ≡ place + 1 = omega arith in
      subst (λ n. map ranked_place more ≡ count_up n) next (ap (map ranked_place) e
      ∙ map-append ranked_place ranks (r ∷ []) ∙ ap₂ (λ l p. l ++ p ∷ []) places at),
  subst (All (HasRanks t keys)) (sym e)
      (All-append (HasRanks t keys) ranks (r ∷ []) all
      (All-cons (HasRanks t keys) r [] is (λ k d lt. absurd (omega (arith, lt))))),
)
