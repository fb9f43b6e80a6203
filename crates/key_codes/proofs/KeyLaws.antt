-- Keys that have one code are one key.
use Rattle.key_codes.proofs.Imports.{◌≡◌, ℕ, suc, ◌<◌, ◌≤◌, ◌+◌, ◌^◌, ◌≢◌, Bool, true, false, append_assoc, List, [], ◌∷◌, ◌++◌, length, map, flat_map, replicate, take, drop, get_or, refl, sym, ap, ap₂, ◌∙◌, arith, fold, w64, subst, cond, ◌||◌, IfOk, OnOk, Result, Vec, ℤ, pos, Int, Null, UInt, Text, not, is_null, or_null, is_plain_text, is_text, plain_type, PlainType, common_steps, All, All-map, AllByRecursion, AreKeyValues, ColumnType, FindsCode, FindsCodes, HasKey, IsCell, IsSame, Row, Value, append-nil, at_drop_more, byte_code, cases_lt, drop_all, drop_at, first_plain_type, first_key_column, flat_map-append, from_le_bytes-to_le_bytes_8, get_or-map, get_or_default, key_at, key_bytes, key_code, length-map, list_any-append, null_mark, null_marks, map-map, row_code, type_at, list_any, map-append, nat_list_eq_equiv, places_from, position_or_len, same_code, same_row, same_row_is, same_text, take-suc, take_at, to_le_bytes, value_at, value_bytes, value_code, with_key, plain_types_at}
use Rattle.chunk_data.specs.declared.typed_value.ColumnType.TheVariants as column
use Rattle.chunk_data.specs.declared.typed_value.PlainType.TheVariants as plain
use Rattle.key_codes.proofs.CodeLaws.{map-insert}

pub same_code_is : IsSame same_code
same_code_is = record {
  itself = λ x. nat_list_eq_equiv.refl x;
  one = λ x y e. same_text x y (sym e);
}

cells-long : (types : List PlainType) (a : Row) → AreKeyValues types a → length a ≡ length types
cells-long [] [] h = refl
cells-long (t ∷ types) (v ∷ a) h = ap suc (cells-long types a h.1)
cells-long _ _ h = absurd h

-- a value, and what follows it; whether it is NULL is told elsewhere
record AreOne (v w : Value) (xs ys : List ℕ) : Type 0 where
  value : is_null v ≡ is_null w → v ≡ w
  rest : xs ≡ ys

split : (a b xs ys : List ℕ) → length a ≡ length b → a ++ xs ≡ b ++ ys → (a ≡ b) × (xs ≡ ys)
split a b xs ys l e = (
  sym (take_at a xs (length a) refl) ∙ ap (take (length a)) e ∙ take_at b ys (length a) (sym l),
  sym (drop_at a xs (length a) refl) ∙ ap (drop (length a)) e ∙ drop_at b ys (length a) (sym l),
)

number-bytes : (m n : ℕ) (xs ys : List ℕ) → m < 2 ^ 64 → n < 2 ^ 64
    → to_le_bytes w64 m ++ xs ≡ to_le_bytes w64 n ++ ys → (m ≡ n) × (xs ≡ ys)
number-bytes m n xs ys p q e = search (arith, split, from_le_bytes-to_le_bytes_8)

text-bytes : (a b xs ys : List ℕ) → length a < 2 ^ 64 → length b < 2 ^ 64
    → (to_le_bytes w64 (length a) ++ a) ++ xs ≡ (to_le_bytes w64 (length b) ++ b) ++ ys
    → (a ≡ b) × (xs ≡ ys)
text-bytes a b xs ys p q e = search (arith, number-bytes, append_assoc, split)

-- the bytes of NULL are those of the empty text
null-bytes : (a xs ys : List ℕ) → length a < 2 ^ 64
    → to_le_bytes w64 0 ++ xs ≡ (to_le_bytes w64 (length a) ++ a) ++ ys → xs ≡ ys
null-bytes a xs ys p e = (text-bytes [] a xs ys (omega arith) p
    (ap (λ l. l ++ xs) (append-nil (to_le_bytes w64 0)) ∙ e)).1

values-one : (t : PlainType) (v w : Value) (xs ys : List ℕ) → IsCell t v → IsCell t w
    → value_bytes v ++ xs ≡ value_bytes w ++ ys → AreOne v w xs ys
values-one t (Int y) (Int z) xs ys p q e = grind (arith, number-bytes)
values-one t (UInt m) (UInt n) xs ys p q e = grind (arith, number-bytes)
values-one t (Text a) (Text b) xs ys p q e = grind (arith, text-bytes)
values-one t Null Null xs ys p q e = grind (arith, number-bytes)
values-one t Null (Int z) xs ys p q e = grind (arith, number-bytes)
values-one t Null (UInt n) xs ys p q e = grind (arith, number-bytes)
values-one t Null (Text b) xs ys p q e =
    let rest = null-bytes b xs ys q.1 e in grind (arith, rest)
values-one t (Int z) Null xs ys p q e = grind (arith, number-bytes)
values-one t (UInt n) Null xs ys p q e = grind (arith, number-bytes)
values-one t (Text a) Null xs ys p q e =
    let rest = sym (null-bytes a ys xs p.1 (sym e)) in grind (arith, rest)
values-one t v w xs ys p q e = grind arith

-- keys whose values have the same bytes are one where the same values are NULL
record AreAlike (a b : Row) (xs ys : List ℕ) : Type 0 where
  keys : map is_null a ≡ map is_null b → a ≡ b
  rest : xs ≡ ys

keys-alike : (types : List PlainType) (a b : Row) (xs ys : List ℕ) → AreKeyValues types a
    → AreKeyValues types b → flat_map value_bytes a ++ xs ≡ flat_map value_bytes b ++ ys
    → AreAlike a b xs ys
keys-alike [] [] [] xs ys p q e = record { keys = λ same. refl; rest = e }
keys-alike [] (v ∷ a) b xs ys p q e = absurd p
keys-alike (t ∷ types) [] b xs ys p q e = absurd p
keys-alike (t ∷ types) (v ∷ a) (w ∷ b) xs ys p q e =
    let here = values-one t v w (flat_map value_bytes a ++ xs) (flat_map value_bytes b ++ ys)
    p.0 q.0 (sym (append_assoc (value_bytes v) (flat_map value_bytes a) xs) ∙ e
    ∙ append_assoc (value_bytes w) (flat_map value_bytes b) ys) in
    let more = keys-alike types a b xs ys p.1 q.1 here.rest in
    record { keys = λ same. grind (arith, here.value, more.keys); rest = more.rest }
keys-alike _ _ _ xs ys p q e = absurd q

marks-one : (a b : Row) → map null_mark a ≡ map null_mark b → map is_null a ≡ map is_null b
marks-one [] [] e = refl
marks-one (v ∷ a) (w ∷ b) e = grind (arith, common_steps, marks-one a b)
marks-one a b e = grind arith

none-null : (a : Row) → list_any is_null a ≡ false → map is_null a ≡ replicate (length a) false
none-null [] e = refl
none-null (v ∷ a) e = grind (arith, common_steps, none-null a)

-- the marks tell which values are NULL
null-marks : (a b : Row) → length a ≡ length b → null_marks a ≡ null_marks b
    → map is_null a ≡ map is_null b
null-marks a b l e = by (list_any is_null a) (list_any is_null b) refl refl
  where
    some-marks : (a : Row) → list_any is_null a ≡ true → map null_mark a ≡ [] → ⊥
    some-marks [] f e = absurd cc
    some-marks (v ∷ a) f e = absurd cc

    by : (s t : Bool) → list_any is_null a ≡ s → list_any is_null b ≡ t
        → map is_null a ≡ map is_null b
    by true true f g = marks-one a b (grind (arith, common_steps))
    by false false f g =
        none-null a f ∙ ap (λ n. replicate n false) l ∙ sym (none-null b g)
    by true false f g = absurd (some-marks a f (grind (arith, common_steps)))
    by false true f g = absurd (some-marks b g (grind (arith, common_steps)))

bytes-one : (types : List PlainType) (a b : Row) → AreKeyValues types a → AreKeyValues types b
    → key_bytes a ≡ key_bytes b → a ≡ b
bytes-one types a b p q e =
    let alike = keys-alike types a b (null_marks a) (null_marks b) p q e in
    alike.keys (null-marks a b (cells-long types a p ∙ sym (cells-long types b q)) alike.rest)

value-one : (t : PlainType) (v w : Value) → IsCell t v → IsCell t w
    → value_code v ≡ value_code w → v ≡ w
value-one t v w p q e = grind arith

pub many-code : (key : Row) → 1 < length key → key_code key ≡ byte_code (key_bytes key)
many-code [] lt = absurd (omega (arith, lt))
many-code (v ∷ []) lt = absurd (omega (arith, lt))
many-code (v ∷ w ∷ key) lt = refl

key-one : (types : List PlainType) (a b : Row) → AreKeyValues types a → AreKeyValues types b
    → key_code a ≡ key_code b → a ≡ b
key-one types a b p q e = by a b refl refl
  where
    long : length a ≡ length b
    long = cells-long types a p ∙ sym (cells-long types b q)

    single : (types : List PlainType) (v w : Value) → AreKeyValues types (v ∷ [])
        → AreKeyValues types (w ∷ []) → value_code v ≡ value_code w → v ≡ w
    single [] v w p q e = absurd p
    single (t ∷ types) v w p q e = value-one t v w p.0 q.0 e

    by : (x y : Row) → a ≡ x → b ≡ y → a ≡ b
    by [] [] f g = f ∙ sym g
    by (v ∷ []) (w ∷ []) f g =
        f ∙ ap (λ x. x ∷ []) (single types v w (subst (AreKeyValues types) f p)
        (subst (AreKeyValues types) g q) (sym (ap key_code f) ∙ e ∙ ap key_code g)) ∙ sym g
    by (v ∷ u ∷ x) (w ∷ z ∷ y) f g = bytes-one types a b p q (grind (arith, many-code))
    by x y f g = absurd (omega (arith, long, ap length f, ap length g))

both-or-none : (a b : Bool) (P : Type 0) → (a ≡ true → P) → (P → b ≡ true) → (b ≡ true → P)
    → (P → a ≡ true) → a ≡ b
both-or-none a b P f g h k = grind (arith, common_steps)

-- Keys have one code exactly where they are one.
pub codes-agree : (types : List PlainType) (a b : Row) → AreKeyValues types a → AreKeyValues types b
    → same_code (key_code a) (key_code b) ≡ same_row a b
codes-agree types a b p q =
    search (arith, both-or-none, key-one, same_code_is, same_row_is, same_code)

-- ---- codes in place of keys

module _ (types : List PlainType) where
  place-key : (k : Row) → AreKeyValues types k → (keys : List Row)
      → AllByRecursion (AreKeyValues types) keys
      → position_or_len (same_code (key_code k)) (map key_code keys)
      ≡ position_or_len (same_row k) keys
  place-key k p [] h = refl
  place-key k p (x ∷ keys) h = grind (arith, codes-agree types k x, place-key k p keys)

  any-key : (k : Row) → AreKeyValues types k → (keys : List Row)
      → AllByRecursion (AreKeyValues types) keys
      → list_any (same_code (key_code k)) (map key_code keys) ≡ list_any (same_row k) keys
  any-key k p [] h = refl
  any-key k p (x ∷ keys) h = grind (arith, codes-agree types k x, any-key k p keys)

  with-code : (adds : Bool) (k : Row) → AreKeyValues types k → (keys : List Row)
      → AllByRecursion (AreKeyValues types) keys
      → with_key adds same_code (map key_code keys) (key_code k)
      ≡ map key_code (with_key adds same_row keys k)
  with-code true k p keys h = map-insert key_code _ _ keys k (any-key k p keys h)
  with-code false k p keys h = refl

  with-cells : (adds : Bool) (k : Row) → AreKeyValues types k → (keys : List Row)
      → AllByRecursion (AreKeyValues types) keys
      → AllByRecursion (AreKeyValues types) (with_key adds same_row keys k)
  with-cells false k p keys h = h
  with-cells true k p keys h = go (list_any (same_row k) keys)
    where
      behind : (l : List Row) → AllByRecursion (AreKeyValues types) l
          → AllByRecursion (AreKeyValues types) (l ++ k ∷ [])
      behind [] g = (p, tt)
      behind (x ∷ l) g = (g.0, behind l g.1)

      go : (b : Bool) → AllByRecursion (AreKeyValues types) (cond b keys (keys ++ k ∷ []))
      go true = h
      go false = behind keys h

  -- The places of keys are those of their codes,
  pub places-keys : (adds : Bool) (ks : List Row) → AllByRecursion (AreKeyValues types) ks
      → (keys : List Row) → AllByRecursion (AreKeyValues types) keys
      → places_from adds same_code (map key_code keys) (map key_code ks)
      ≡ places_from adds same_row keys ks
  places-keys adds [] p keys h = refl
  places-keys adds (k ∷ ks) p keys h =
      ap₂ ◌∷◌ (place-key k p.0 keys h)
      (ap (λ l. places_from adds same_code l (map key_code ks)) (with-code adds k p.0 keys h)
      ∙ places-keys adds ks p.1 (with_key adds same_row keys k) (with-cells adds k p.0 keys h))

  -- and the codes that are seen then are those of the keys.
  pub codes-keys : (adds : Bool) (ks : List Row) → AllByRecursion (AreKeyValues types) ks
      → (keys : List Row) → AllByRecursion (AreKeyValues types) keys
      → fold (with_key adds same_code) (map key_code keys) (map key_code ks)
      ≡ map key_code (fold (with_key adds same_row) keys ks)
  codes-keys adds [] p keys h = refl
  codes-keys adds (k ∷ ks) p keys h =
      ap (λ l. fold (with_key adds same_code) l (map key_code ks)) (with-code adds k p.0 keys h)
      ∙ codes-keys adds ks p.1 (with_key adds same_row keys k) (with-cells adds k p.0 keys h)

-- ---- what the code writes

-- one value of the key more
key-next : (places : List ℕ) (k : ℕ) (row : Row) → k < length places
    → key_at (take (k + 1) places) row
    ≡ key_at (take k places) row ++ value_at row (get_or places k 0) ∷ []
key-next places k row lt = grind (arith, take-suc places k 0, map-append)

pub bytes-next : (places : List ℕ) (k : ℕ) (row : Row) (code : List ℕ) (v : Value)
    → k < length places → code ≡ flat_map value_bytes (key_at (take k places) row) ++ value_bytes v
    → v ≡ value_at row (get_or places k 0)
    → code ≡ flat_map value_bytes (key_at (take (k + 1) places) row)
bytes-next places k row code v lt e is = search (arith, append-nil, key-next, flat_map-append)

-- whether one of the values so far is NULL
pub null-next : (places : List ℕ) (k : ℕ) (row : Row) (some null : Bool) (v : Value)
    → k < length places → some ≡ list_any is_null (key_at (take k places) row)
    → null ≡ is_null v → v ≡ value_at row (get_or places k 0)
    → (some || null) ≡ list_any is_null (key_at (take (k + 1) places) row)
null-next places k row some null v lt e f is =
    search (arith, common_steps, key-next, list_any-append)

-- the mark of one value more
pub marks-next : (places : List ℕ) (k : ℕ) (row : Row) (code more : List ℕ) (valid : Bool)
    (v : Value) → k < length places → value_at row (get_or places k 0) ≡ or_null valid v
    → is_null v ≡ false → code ≡ more ++ map null_mark (key_at (take k places) row)
    → code ++ cond (not valid) 1 0 ∷ []
    ≡ more ++ map null_mark (key_at (take (k + 1) places) row)
marks-next places k row code more valid v lt is plain e =
    search (arith, common_steps, key-next, map-append, append_assoc)

cells-append : (types : List PlainType) (key : Row) (t : PlainType) (v : Value)
    → AreKeyValues types key → IsCell t v → AreKeyValues (types ++ t ∷ []) (key ++ v ∷ [])
cells-append [] [] t v h p = (p, tt)
cells-append (u ∷ types) (w ∷ key) t v h p = (h.0, cells-append types key t v h.1 p)
cells-append _ _ t v h p = absurd h

pub cells-next : (types : List ColumnType) (places : List ℕ) (k : ℕ) (row : Row)
    → HasKey types (take k places) row → k < length places
    → IsCell (plain_type (type_at types (get_or places k 0))) (value_at row (get_or places k 0))
    → HasKey types (take (k + 1) places) row
cells-next types places k row h lt cell =
    let next : k + 1 ≡ suc k = omega arith in
    let more = ap (λ n. take n places) next ∙ take-suc places k 0 lt in
    let kinds = ap (plain_types_at types) more
    ∙ map-append (λ c. plain_type (type_at types c)) (take k places) (get_or places k 0 ∷ []) in
    subst (AreKeyValues (plain_types_at types (take (k + 1) places)))
    (sym (key-next places k row lt))
    (subst (λ ts. AreKeyValues ts
    (key_at (take k places) row ++ value_at row (get_or places k 0) ∷ []))
    (sym kinds)
    (cells-append (plain_types_at types (take k places)) (key_at (take k places) row) _ _ h cell))

-- the cell of a column of the rows
pub cell-value : (rows : List Row) (c i : ℕ) (vs : List Value)
    → vs ≡ map (λ (row : Row). value_at row c) rows → i < length rows
    → value_at vs i ≡ value_at (get_or rows i []) c
cell-value rows c i vs e lt = grind (arith, get_or-map)

pub cell-type : (types : List ColumnType) (c : ℕ) (kind : ColumnType) (v w : Value)
    → kind ≡ get_or types c kind → c < length types → v ≡ w → IsCell (plain_type kind) v
    → IsCell (plain_type (type_at types c)) w
cell-type types c kind v w e lt is h = grind (arith, get_or_default)

-- a key of one value
pub one-cells : (types : List ColumnType) (places : List ℕ) (row : Row) → length places ≡ 1
    → IsCell (plain_type (type_at types (first_key_column places)))
    (value_at row (first_key_column places))
    → HasKey types places row
one-cells types [] row one cell = absurd (omega (arith, one))
one-cells types (c ∷ []) row one cell = (cell, tt)
one-cells types (c ∷ d ∷ places) row one cell = absurd (omega (arith, one))

-- ---- codes found one by one

module _ (adds : Bool) (codes old : List (List ℕ)) where
  -- the first codes are found, and the rest are found among those that are seen now
  pub record FindsSome (i : ℕ) (new : List (List ℕ)) (places : List ℕ) : Type 0 where
    pub places_left : places ++ places_from adds same_code new (drop i codes)
        ≡ places_from adds same_code old codes
    pub codes_left : fold (with_key adds same_code) new (drop i codes)
        ≡ fold (with_key adds same_code) old codes

  -- one code more
  pub finds-next : (i : ℕ) (seen new : List (List ℕ)) (ps more : List ℕ) (code : List ℕ) (p : ℕ)
      → i < length codes → code ≡ get_or codes i [] → FindsSome i seen ps
      → FindsCode adds code seen new p → more ≡ ps ++ p ∷ [] → FindsSome (i + 1) new more
  finds-next i seen new ps more code p lt is h f e = record {
    places_left = ap₂ (λ l s. l ++ places_from adds same_code s (drop (i + 1) codes))
        (e ∙ ap (λ q. ps ++ q ∷ []) f.is) f.codes
        ∙ append_assoc ps (position_or_len (same_code code) seen ∷ [])
        (places_from adds same_code (with_key adds same_code seen code) (drop (i + 1) codes))
        ∙ ap (λ l. ps ++ l)
        (ap (λ x. places_from adds same_code seen (x ∷ drop (i + 1) codes)) is
        ∙ sym (at_drop_more (places_from adds same_code seen) codes i [] lt)) ∙ h.places_left;
    codes_left = ap (λ s. fold (with_key adds same_code) s (drop (i + 1) codes)) f.codes
        ∙ ap (λ x. fold (with_key adds same_code) (with_key adds same_code seen x)
        (drop (i + 1) codes)) is
        ∙ sym (at_drop_more (fold (with_key adds same_code) seen) codes i [] lt) ∙ h.codes_left;
  }

  -- all of them
  pub finds-all : (i : ℕ) (new : List (List ℕ)) (places : List ℕ) → length codes ≤ i
      → FindsSome i new places → FindsCodes adds codes old new places
  finds-all i new places le h = record {
    is = sym (append-nil places)
        ∙ ap (λ l. places ++ places_from adds same_code new l) (sym (drop_all i codes le))
        ∙ h.places_left;
    seen = ap (fold (with_key adds same_code) new) (sym (drop_all i codes le)) ∙ h.codes_left;
  }

-- ---- the codes of a chunk's keys

-- a key of no columns
pub whole-codes : (places : List ℕ) (rows : List Row) → length places ≡ 0
    → replicate (length rows) [] ≡ map (row_code places) rows
whole-codes [] [] e = refl
whole-codes [] (row ∷ rows) e = ap (λ l. [] ∷ l) (whole-codes [] rows e)
whole-codes (c ∷ places) rows e = absurd (omega (arith, e))

-- a key of one
pub one-codes : (places : List ℕ) (rows : List Row) (vs : List Value) → length places ≡ 1
    → vs ≡ map (λ (row : Row). value_at row (first_key_column places)) rows
    → map value_code vs ≡ map (row_code places) rows
one-codes [] rows vs one e = absurd (omega (arith, one))
one-codes (c ∷ []) rows vs one e = grind (arith, map-map)
one-codes (c ∷ d ∷ places) rows vs one e = absurd (omega (arith, one))

pub one-keys : (types : List ColumnType) (places : List ℕ) (rows : List Row) (kind : ColumnType)
    (vs : List Value) → length places ≡ 1 → kind ≡ get_or types (first_key_column places) kind
    → first_key_column places < length types
    → vs ≡ map (λ (row : Row). value_at row (first_key_column places)) rows
    → All (IsCell (plain_type kind)) vs
    → All (HasKey types places) rows
one-keys types places rows kind vs one e lt is cells = λ k d less.
    let v = get_or vs k (Text []) in
    let long = ap length is ∙ length-map rows
    (λ (row : Row). value_at row (first_key_column places)) in
    let within : k < length vs = omega (arith, long, less) in
    one-cells types places (get_or rows k d) one
    (cell-type types (first_key_column places) kind v _ e lt
    (ap (λ l. get_or l k (Text [])) is
    ∙ get_or-map (λ (row : Row). value_at row (first_key_column places)) rows k d (Text []) less)
    (cells k (Text []) within))

-- texts are their own codes
pub text-codes : (texts : List (List ℕ)) → map byte_code texts ≡ map value_code (map Text texts)
text-codes texts = sym (map-map value_code Text texts)

pub text-cells : (t : PlainType) (texts : List (List ℕ)) → is_plain_text t ≡ true
    → All (λ (text : List ℕ). length text < 2 ^ 64) texts → All (IsCell t) (map Text texts)
text-cells t texts e h =
    let plain : t ≡ plain.Text = grind arith in
    All-map (IsCell t) Text texts (λ k d lt. (plain, h k d lt))

-- the type of a column of a chunk
pub kind-at : (types : List ColumnType) (c : ℕ) (kind : ColumnType) → kind ≡ get_or types c kind
    → c < length types → type_at types c ≡ kind
kind-at types c kind e lt = sym (e ∙ get_or_default types c kind column.Text lt)

-- the form of a key of one value
pub first-kind : (types : List ColumnType) (places : List ℕ) → 0 < length places
    → first_plain_type (plain_types_at types places)
    ≡ plain_type (type_at types (first_key_column places))
first-kind types places some =
    get_or-map (λ c. plain_type (type_at types c)) places 0 0 plain.Text some

pub kinds-long : (types : List ColumnType) (places : List ℕ)
    → length (plain_types_at types places) ≡ length places
kinds-long types places = length-map places (λ c. plain_type (type_at types c))

pub one-form : (types : List ColumnType) (places : List ℕ) (b : Bool)
    → length (plain_types_at types places) ≡ 1
    → is_plain_text (first_plain_type (plain_types_at types places)) ≡ b
    → (length places ≡ 1) × (is_text (type_at types (first_key_column places)) ≡ b)
one-form types places b one e = grind (arith, kinds-long, first-kind)

pub several-code : (places : List ℕ) (row : Row) (code : List ℕ) → 1 < length places
    → code ≡ key_bytes (key_at places row) → byte_code code ≡ row_code places row
several-code places row code lt e =
    ap byte_code e ∙ sym (many-code (key_at places row)
    (omega (arith, lt, length-map places (value_at row))))

-- each value of a column has what was seen of each
pub cells-of : {A : Type 0} (kind : PlainType) (value : A → Value) (xs : List A) (d : A) (i : ℕ)
    → length xs ≤ i → ((k : ℕ) → k < i → IsCell kind (value (get_or xs k d)))
    → All (IsCell kind) (map value xs)
cells-of kind value xs d i le h = All-map (IsCell kind) value xs
    (λ k e lt. subst (λ x. IsCell kind (value x)) (get_or_default xs k d e lt)
    (h k (omega (arith, lt, le))))

-- the bits of one number more
pub ints-next : (numbers : List ℤ) (i : ℕ) (bits more : List ℕ) (b : ℕ) → i < length numbers
    → more ≡ bits ++ b ∷ []
    → map (λ n. n ∷ []) bits ≡ map value_code (map Int (take i numbers))
    → b ∷ [] ≡ value_code (Int (get_or numbers i (pos 0)))
    → map (λ n. n ∷ []) more ≡ map value_code (map Int (take (i + 1) numbers))
ints-next numbers i bits more b lt e is code =
    let next : i + 1 ≡ suc i = omega arith in
    let z = get_or numbers i (pos 0) in
    let taken = ap (λ n. take n numbers) next ∙ take-suc numbers i (pos 0) lt in
    ap (map (λ n. n ∷ [])) e ∙ map-append (λ n. n ∷ []) bits (b ∷ [])
    ∙ ap₂ ◌++◌ is (ap (λ c. c ∷ []) code)
    ∙ sym (map-append value_code (map Int (take i numbers)) (Int z ∷ []))
    ∙ sym (ap (map value_code) (map-append Int (take i numbers) (z ∷ [])))
    ∙ sym (ap (λ l. map value_code (map Int l)) taken)

pub cells-more : {A : Type 0} (kind : PlainType) (value : A → Value) (xs : List A) (d : A) (i : ℕ)
    → ((k : ℕ) → k < i → IsCell kind (value (get_or xs k d)))
    → IsCell kind (value (get_or xs i d))
    → (k : ℕ) → k < i + 1 → IsCell kind (value (get_or xs k d))
cells-more kind value xs d i h cell k lt = grind (arith, cases_lt)

-- what is found of the codes is found of the keys
module _ {Z E : Type 0} (r : Result (Vec ℕ Z) E) (adds : Bool)
    (codes old new es seen : List (List ℕ)) (same : codes ≡ es) (begun : seen ≡ old)
    (h : IfOk r (λ (v : Vec ℕ Z). FindsCodes adds codes old new v.items)) where
  pub found-places : IfOk r (λ (v : Vec ℕ Z). v.items ≡ places_from adds same_code seen es)
  found-places = grind arith

  pub found-codes : OnOk r (new ≡ fold (with_key adds same_code) seen es)
  found-codes = grind arith
