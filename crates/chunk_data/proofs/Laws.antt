-- The law between rows and columns, for all code that works column by column.
use Rattle.chunk_data.proofs.Imports.{All, AreLong, Bool, Column, ColumnType, FitsType, FitsTypes, Int64, List, None, Null, PlainColumn, PlainType, Row, Some, Text, UInt64, Value, [], adds, ap, append_each, arith, column_type, false, false≢true, get_or, get_or-replicate, is_nullable, is_some, length, length-map, length-replicate, map, nullable_if, with_nulls, option_map, or_null, plain_column_type, plain_values, refl, replicate, rows_of, same_plain, stored_values, suc, sym, true, values, zero, zip2, ℕ, ◌++◌, ◌+◌, ◌<◌, ◌∙◌, ◌∷◌, ◌≡◌}
use Rattle.chunk_data.specs.declared.typed_value.PlainType.TheVariants as plain
use Rattle.chunk_data.specs.declared.typed_value.Value.TheVariants as value
use Rattle.chunk_data.proofs.Nulls.{nullable_of_nullable_if, plain_of_nullable_if}
use Rattle.chunk_data.proofs.Rows.{AreLong-joined, AreLong-row}
pub use Rattle.chunk_data.proofs.Rows.{length-rows_of, column_of-rows_of, row_of-rows_of, rows_of_push}

-- ---- columns made from rows: one for each `e`, with `value e row` at each row
pub AreLong-made : {E X R : Type 0} (value : E → R → X) (es : List E) (rows : List R)
    → AreLong (length rows) (map (λ e. map (λ row. value e row) rows) es)
AreLong-made value [] rows = tt
AreLong-made value (e ∷ es) rows = search (arith, length-map, AreLong-made value es rows)

no_values : {R : Type 0} (X : Type 0) (rows : List R)
    → let none : List (List X) = replicate (length rows) [] in none ≡ map (λ row. []) rows
no_values X [] = refl
no_values X (row ∷ rows) = ap (λ l. [] ∷ l) (no_values X rows)

adds-map : {X R : Type 0} (f : R → X) (g : R → List X) (rows : List R)
    → adds (map f rows) (map g rows) ≡ map (λ row. f row ∷ g row) rows
adds-map f g [] = refl
adds-map f g (row ∷ rows) = ap (λ l. (f row ∷ g row) ∷ l) (adds-map f g rows)

pub rows_of-made : {E X R : Type 0} (value : E → R → X) (es : List E) (rows : List R)
    → rows_of (length rows) (map (λ e. map (λ row. value e row) rows) es)
    ≡ map (λ row. map (λ e. value e row) es) rows
rows_of-made {X = X} value [] rows = no_values X rows
rows_of-made value (e ∷ es) rows = search (arith, adds-map, rows_of-made value es rows)

-- the same for columns whose values are known by an equation, as a caller of `Chunk::of_columns`
-- has them
pub AreLong_of_made : {E X R : Type 0} (value : E → R → X) (es : List E) (rows : List R)
    (columns : List (List X)) (n : ℕ) → columns ≡ map (λ e. map (λ row. value e row) rows) es
    → n ≡ length rows → AreLong n columns
AreLong_of_made value es rows columns n c e = rw (c, e) (AreLong-made value es rows)

pub rows_of_made : {E X R : Type 0} (value : E → R → X) (es : List E) (rows : List R)
    (columns : List (List X)) (n : ℕ) → columns ≡ map (λ e. map (λ row. value e row) rows) es
    → n ≡ length rows → rows_of n columns ≡ map (λ row. map (λ e. value e row) es) rows
rows_of_made value es rows columns n c e = rw (c, e) (rows_of-made value es rows)

-- ---- columns beside columns make longer rows
joined-replicate : {X : Type 0} (n : ℕ) (rows : List (List X)) → length rows ≡ n
    → append_each (replicate n []) rows ≡ rows
joined-replicate zero [] e = refl
joined-replicate (suc n) (row ∷ rows) e = ap (λ l. row ∷ l) (joined-replicate n rows (omega arith))
joined-replicate _ _ e = absurd (omega arith)

joined-adds : {X : Type 0} (column : List X) (rows others : List (List X))
    → adds column (append_each rows others) ≡ append_each (adds column rows) others
joined-adds (x ∷ column) (row ∷ rows) (other ∷ others) =
    ap (λ l. (x ∷ (row ++ other)) ∷ l) (joined-adds column rows others)
joined-adds _ _ _ = refl

pub AreLong-append : {X : Type 0} (n : ℕ) (columns others : List (List X)) → AreLong n columns
    → AreLong n others → AreLong n (columns ++ others)
AreLong-append n [] others h k = k
AreLong-append n (column ∷ columns) others h k = (h.0, AreLong-append n columns others h.1 k)

pub rows_of-append : {X : Type 0} (n : ℕ) (columns others : List (List X)) → AreLong n others
    → rows_of n (columns ++ others) ≡ append_each (rows_of n columns) (rows_of n others)
rows_of-append n [] others k = search (arith, joined-replicate, length-rows_of)
rows_of-append n (column ∷ columns) others k = ap (λ l. adds column l)
    (rows_of-append n columns others k) ∙ joined-adds column (rows_of n columns) (rows_of n others)

-- ---- a row that is pushed value by value
pub AreLong_push : {X : Type 0} (n : ℕ) (columns : List (List X)) (row : List X) → AreLong n columns
    → AreLong (n + 1) (append_each columns (map (λ v. v ∷ []) row))
AreLong_push n columns row h = search (arith, AreLong-joined, AreLong-row)

-- ---- types, Nullable apart
pub same_plain-is : (p q : PlainType) → same_plain p q ≡ true → p ≡ q
same_plain-is plain.Int64 plain.Int64 h = refl
same_plain-is plain.UInt64 plain.UInt64 h = refl
same_plain-is plain.Text plain.Text h = refl
same_plain-is p q h = absurd cc

-- a column of a plain type has the values that it keeps
pub values-of_plain : (c : Column) → is_nullable (column_type c) ≡ false
    → values c ≡ stored_values c
values-of_plain c h = elim c.validity as (λ v. is_nullable (nullable_if (is_some v)
    (plain_column_type c.plain)) ≡ false → with_nulls (option_map (λ v. v.items) v)
    (plain_values c.plain) ≡ plain_values c.plain) [
      | None ↦ λ h. refl
      | Some v ↦ λ h. absurd (false≢true (sym h
          ∙ nullable_of_nullable_if true (plain_column_type c.plain)))
    ] h

-- ---- rows that fit types
pub length-FitsTypes : (types : List ColumnType) (row : Row) → FitsTypes types row
    → length row ≡ length types
length-FitsTypes [] [] h = refl
length-FitsTypes (t ∷ types) (v ∷ row) h = ap suc (length-FitsTypes types row h.1)
length-FitsTypes _ _ h = absurd h

pub FitsTypes-at : (types : List ColumnType) (row : Row) (c : ℕ) (t : ColumnType) (v : Value)
    → FitsTypes types row → c < length row → FitsType (get_or types c t) (get_or row c v)
FitsTypes-at [] [] c t v h lt = absurd (omega arith)
FitsTypes-at (s ∷ types) (w ∷ row) zero t v h lt = h.0
FitsTypes-at (s ∷ types) (w ∷ row) (suc c) t v h lt = FitsTypes-at types row c t v h.1 (omega arith)
FitsTypes-at _ _ c t v h lt = absurd h

all_mapped : {X : Type 0} (P : Value → Type 0) (f : X → Value) → ((x : X) → P (f x)) → (xs : List X)
    → All P (map f xs)
all_mapped P f h [] = λ k d lt. absurd (omega arith)
all_mapped P f h (x ∷ xs) = λ k d lt. elim k as (λ k. k < length (map f (x ∷ xs)) → P (get_or (map f
    (x ∷ xs)) k d)) [ zero ↦ λ _. h x | suc k ↦ λ lt. all_mapped P f h xs k d (omega arith) ] lt

plain_fit : (b : Bool) (column : PlainColumn)
    → All (FitsType (nullable_if b (plain_column_type column))) (plain_values column)
plain_fit b (Int64 numbers) = all_mapped (FitsType (nullable_if b plain.Int64)) value.Int
    (λ x. plain_of_nullable_if b plain.Int64) numbers.items
plain_fit b (UInt64 numbers) = all_mapped (FitsType (nullable_if b plain.UInt64)) value.UInt
    (λ x. plain_of_nullable_if b plain.UInt64) numbers.items
plain_fit b (Text texts) = all_mapped (FitsType (nullable_if b plain.Text)) value.Text
    (λ x. plain_of_nullable_if b plain.Text) texts

all_with_nulls : (P : Value → Type 0) → P Null → (validity : List Bool) (vs : List Value) → All P vs
    → All P (zip2 or_null validity vs)
all_with_nulls P n [] vs h = λ k d lt. absurd (omega arith)
all_with_nulls P n (b ∷ validity) [] h = λ k d lt. absurd (omega arith)
all_with_nulls P n (b ∷ validity) (v ∷ vs) h =
    let here : P (or_null b v) = elim b as (λ b. P (or_null b v))
    [ true ↦ h 0 v (omega arith) | false ↦ n ] in
    let more : All P (zip2 or_null validity vs) =
    all_with_nulls P n validity vs (λ k d lt. h (suc k) d (omega arith)) in
    λ k d lt. elim k as (λ k. k < length (zip2 or_null (b ∷ validity) (v ∷ vs))
    → P (get_or (zip2 or_null (b ∷ validity) (v ∷ vs)) k d)) [
      | zero ↦ λ _. here
      | suc k ↦ λ lt. more k d (omega arith)
    ] lt

-- a column's values fit its type
pub all_fit : (column : Column) → All (FitsType (column_type column)) (values column)
all_fit column = elim column.validity as (λ v. All (FitsType (nullable_if (is_some v)
    (plain_column_type column.plain))) (with_nulls (option_map (λ v. v.items) v)
    (plain_values column.plain))) [
      | None ↦ plain_fit false column.plain
      | Some v ↦ all_with_nulls (FitsType (nullable_if true (plain_column_type column.plain)))
          (nullable_of_nullable_if true (plain_column_type column.plain)) v.items
          (plain_values column.plain) (plain_fit true column.plain)
    ]

all_adds : (t : ColumnType) (types : List ColumnType) (column : List Value) (rows : List Row)
    → length column ≡ length rows → All (FitsType t) column → All (FitsTypes types) rows
    → All (FitsTypes (t ∷ types)) (adds column rows)
all_adds t types [] rows e h r = λ k d lt. absurd (omega arith)
all_adds t types (x ∷ column) [] e h r = λ k d lt. absurd (omega arith)
all_adds t types (x ∷ column) (row ∷ rows) e h r =
    let more : All (FitsTypes (t ∷ types)) (adds column rows) = all_adds t types column rows
    (omega arith) (λ k d lt. h (suc k) d (omega arith)) (λ k d lt. r (suc k) d (omega arith)) in
    λ k d lt. elim k as (λ k. k < length (adds (x ∷ column) (row ∷ rows))
    → FitsTypes (t ∷ types) (get_or (adds (x ∷ column) (row ∷ rows)) k d)) [
      | zero ↦ λ _.
          (h 0 x (omega arith), r 0 row (omega arith))
      | suc k ↦ λ lt. more k d (omega arith)
    ] lt

-- each row of columns fits their types
pub rows_fit : (columns : List Column) (n : ℕ) → AreLong n (map values columns)
    → All (FitsTypes (map column_type columns)) (rows_of n (map values columns))
rows_fit [] n h = search (arith, get_or-replicate, length-replicate)
rows_fit (column ∷ columns) n h = all_adds (column_type column) (map column_type columns)
    (values column) (rows_of n (map values columns)) (h.0
    ∙ sym (length-rows_of n (map values columns) h.1)) (all_fit column) (rows_fit columns n h.1)
