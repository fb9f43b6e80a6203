-- Rows agree exactly where their keys have one code.
use Rattle.join_proc.proofs.Imports.{All, All-map, AllByRecursion, AreKeyValues, AreKeyPairs, Bool, ColumnType, HasKey, IsKeyPair, JoinSpec, KeyPair, Null, Row, Value, agree, and_parts, codes-agree, common_steps, get_or, is_eq, is_full, is_null, key_at, list_any, list_any-append, map-append, plain_types_at, left_places, recursion_from_All, right_places, row_code, same_code, same_row, same_row_is, suc, take, take_more, value_at, value_cmp, values_agree, zero, List, [], ap, ap₂, arith, false, filter, length, map, not, refl, sym, true, ℕ, ◌&&◌, ◌+◌, ◌<◌, ◌||◌, ◌∙◌, ◌∷◌, ◌≡◌}

-- values agree where the first isn't NULL and they are one
agree-values : (v w : Value)
    → values_agree v w ≡ (not (is_null v) && is_eq (value_cmp v w))
agree-values Null w = refl
agree-values v Null = refl
agree-values v w = refl

-- rows agree where they have one key, and no value of it is NULL
agree-keys : (pairs : List KeyPair) (l r : Row)
    → agree pairs l r ≡ (is_full (left_places pairs) l
    && same_row (key_at (left_places pairs) l) (key_at (right_places pairs) r))
agree-keys [] l r = refl
agree-keys (pair ∷ pairs) l r = grind (arith, common_steps, agree-values, agree-keys pairs l r)

-- a row whose key has NULL agrees with none
pub none-agrees : (pairs : List KeyPair) (l : Row) → is_full (left_places pairs) l ≡ false
    → (rows : List Row) → filter (agree pairs l) rows ≡ []
none-agrees pairs l e [] = refl
none-agrees pairs l e (r ∷ rows) = grind (arith, agree-keys, none-agrees pairs l e rows)

-- one value more of a key isn't NULL
pub full-next : (columns : List ℕ) (k : ℕ) (row : Row) → k < length columns
    → list_any is_null (key_at (take k columns) row) ≡ false
    → is_null (value_at row (get_or columns k 0)) ≡ false
    → list_any is_null (key_at (take (k + 1) columns) row) ≡ false
full-next columns k row lt h e =
    ap (λ l. list_any is_null (key_at l row)) (take_more columns k 0 lt)
    ∙ ap (list_any is_null) (map-append (value_at row) (take k columns) (get_or columns k 0 ∷ []))
    ∙ list_any-append is_null (key_at (take k columns) row) (value_at row (get_or columns k 0) ∷ [])
    ∙ ap₂ (λ a b. a || (b || false)) h e

-- a key with NULL isn't full
pub null-found : (columns : List ℕ) (k : ℕ) (row : Row) → k < length columns
    → is_null (value_at row (get_or columns k 0)) ≡ true → is_full columns row ≡ false
null-found [] k row lt e = absurd (omega (arith, lt))
null-found (c ∷ columns) zero row lt e = ap (λ b. not (b || list_any is_null
    (key_at columns row))) e
null-found (c ∷ columns) (suc k) row lt e = by (is_null (value_at row c))
    (null-found columns k row (omega (arith, lt)) e)
  where
    by : (b : Bool) → not (list_any is_null (key_at columns row)) ≡ false
        → not (b || list_any is_null (key_at columns row)) ≡ false
    by true h = refl
    by false h = h

-- the pairs are of columns of one plain type
pub pair-kinds : (join : JoinSpec) → AreKeyPairs join
    → plain_types_at join.left (left_places join.pairs)
    ≡ plain_types_at join.right (right_places join.pairs)
pair-kinds join h = go join.pairs
    (recursion_from_All (IsKeyPair join.left join.right) join.pairs h)
  where
    go : (pairs : List KeyPair) → AllByRecursion (IsKeyPair join.left join.right) pairs
        → plain_types_at join.left (left_places pairs)
        ≡ plain_types_at join.right (right_places pairs)
    go [] h = refl
    go (pair ∷ pairs) h = ap₂ ◌∷◌ h.0.2 (go pairs h.1)

-- the columns of the pairs are of their sides
pub left-within : (join : JoinSpec) → AreKeyPairs join
    → All (λ c. c < length join.left) (left_places join.pairs)
left-within join h = All-map (λ c. c < length join.left) (λ (p : KeyPair). p.left) join.pairs
    (λ k d lt. (h k d lt).0)

pub right-within : (join : JoinSpec) → AreKeyPairs join
    → All (λ c. c < length join.right) (right_places join.pairs)
right-within join h = All-map (λ c. c < length join.right) (λ (p : KeyPair). p.right) join.pairs
    (λ k d lt. (h k d lt).1)

module _ (types : List ColumnType) (pairs : List KeyPair) where
  -- the row agrees with just those whose keys have the code
  abbrev pub HasCode : Row → List ℕ → Type 0
  HasCode l e =
      (r : Row) → HasKey types (right_places pairs) r
      → agree pairs l r ≡ same_code e (row_code (right_places pairs) r)

  pub left-code : (l : Row) → is_full (left_places pairs) l ≡ true
      → AreKeyValues (plain_types_at types (right_places pairs)) (key_at (left_places pairs) l)
      → HasCode l (row_code (left_places pairs) l)
  left-code l full p = grind (arith, agree-keys, codes-agree)

  -- as a row with which it agrees has
  pub right-code : (l r : Row) → HasKey types (right_places pairs) r → agree pairs l r ≡ true
      → HasCode l (row_code (right_places pairs) r)
  right-code l r p e = λ s q.
      let both = and_parts (is_full (left_places pairs) l) _ (sym (agree-keys pairs l r) ∙ e) in
      let key = same_row_is.one (key_at (left_places pairs) l) (key_at (right_places pairs) r)
      both.1 in
      agree-keys pairs l s
      ∙ ap₂ (λ f k. f && same_row k (key_at (right_places pairs) s)) both.0 key
      ∙ sym (codes-agree (plain_types_at types (right_places pairs))
      (key_at (right_places pairs) r) (key_at (right_places pairs) s) p q)

  pub code-mask : (l : Row) (e : List ℕ) → HasCode l e → (rows : List Row)
      → AllByRecursion (HasKey types (right_places pairs)) rows
      → map (agree pairs l) rows ≡ map (same_code e) (map (row_code (right_places pairs)) rows)
  code-mask l e h [] cells = refl
  code-mask l e h (r ∷ rows) cells = ap₂ ◌∷◌ (h r cells.0) (code-mask l e h rows cells.1)
