-- chunks
use Rattle.chunk_data.proofs.Imports.{arith, All, AreColumns, AreLong, Column, ColumnType, IsTable, List, Row, Table, Value, [], ap, drop, get_or, get_or-map, append_each, column_type, length, length-map, map, map-append, nil_from_length, refl, row_at, rows_of, sym, take, take_at, take_more, value_at, value_range, values, ℕ, ◌++◌, ◌+◌, ◌-◌, ◌<◌, ◌∙◌, ◌∷◌, ◌≡◌, ◌≤◌}
use Rattle.chunk_data.proofs.Rows.{length-rows_of, AreLong-joined, rows_of-joined, column_of-rows_of, AreLong-places, rows_of-places, AreLong-take, rows_of-take, AreLong-drop, rows_of-drop}
use Rattle.chunk_data.proofs.ColumnLists.{AreLong-at}
use Rattle.chunk_data.proofs.Laws.{rows_fit, AreLong-append, rows_of-append}

-- what a `&mut` slice of a Vec leaves
pub written_back : {X : Type 0} (old now : List X) (n : ℕ) → length now ≡ length old
    → n ≡ length old → take n (now ++ drop (length now) old) ≡ now
written_back old now n e k = take_at now (drop (length now) old) n (e ∙ sym k)

all_empty : (types : List ColumnType) → AreLong {X = Value} 0 (map (λ _. []) types)
all_empty [] = tt
all_empty (t ∷ types) = (refl, all_empty types)

no_rows : (types : List ColumnType) → rows_of {X = Value} 0 (map (λ _. []) types) ≡ []
no_rows [] = refl
no_rows (t ∷ types) = refl

pub AreColumns-empty : (types : List ColumnType) (columns : List Column) → map column_type columns
    ≡ types → map values columns ≡ map (λ _. []) types → AreColumns types columns 0
AreColumns-empty types columns k v = record { kinds = k; long = rw v (all_empty types) }

pub rows_of_empty : (types : List ColumnType) (columns : List Column)
    → map values columns ≡ map (λ _. []) types → rows_of 0 (map values columns) ≡ []
rows_of_empty types columns v = rw v (no_rows types)

pub column_of : (types : List ColumnType) (columns : List Column) (n c : ℕ) (d : Column)
    → AreColumns types columns n → c < length columns
    → values (get_or columns c d) ≡ map (λ row. value_at row c) (rows_of n (map values columns))
column_of types columns n c d h lt =
    let wide : c < length (map values columns) = rw length-map lt in
    sym (get_or-map values columns c d [] lt)
    ∙ sym (column_of-rows_of n (map values columns) c _ h.long wide)

pub append_same : {X : Type 0} {xs us ys vs : List X} → xs ≡ us → ys ≡ vs → xs ++ ys ≡ us ++ vs
append_same {us = us} {ys = ys} e k = ap (λ l. l ++ ys) e ∙ ap (λ l. us ++ l) k

column_at_long : (columns : List Column) (n i : ℕ) (x : Column) → AreLong n (map values columns)
    → i < length columns → length (values (get_or columns i x)) ≡ n
column_at_long columns n i x h lt =
    let wide : i < length (map values columns) = rw length-map lt in
    ap length (sym (get_or-map values columns i x (values x) lt))
    ∙ AreLong-at n (map values columns) i (values x) h wide

-- n values of each column from a place on
ranges : (columns : List Column) (from n : ℕ)
    → map (value_range from n) columns ≡ map (take n) (map (drop from) (map values columns))
ranges [] from n = refl
ranges (column ∷ columns) from n = ap (λ l. value_range from n column ∷ l) (ranges columns from n)

pub all_reach : (columns : List Column) (n m : ℕ) → AreLong m (map values columns) → n ≤ m
    → All (λ c. n ≤ length (values c)) columns
all_reach columns n m h le = λ k d lt. omega (arith, column_at_long columns m k d h lt)

-- behind n rows come those of n values of each column from a place on
module _ (columns others : List Column) (n m from k : ℕ) (h : AreLong n (map values columns))
    (o : AreLong m (map values others)) (le : from + k ≤ m) where
  within : k ≤ m - from
  within = omega arith

  pub ranges_long :
      AreLong (n + k) (append_each (map values columns) (map (value_range from k) others))
  ranges_long = rw (ranges others from k)
      (AreLong-joined n k _ _ h (AreLong-take k (m - from) _ (AreLong-drop from m _ o) within))

  pub ranges_rows : length others ≡ length columns
      → rows_of (n + k) (append_each (map values columns) (map (value_range from k) others))
      ≡ rows_of n (map values columns) ++ take k (drop from (rows_of m (map values others)))
  ranges_rows e =
      let part : List (List Value) = map (take k) (map (drop from) (map values others)) in
      let wide : length part ≡ length (map values columns) = length-map _ (take k)
      ∙ length-map _ (drop from) ∙ length-map others values ∙ e ∙ sym (length-map columns values) in
      rw (ranges others from k) (rows_of-joined n k _ part h (AreLong-take k (m - from) _
      (AreLong-drop from m _ o) within) wide ∙ ap (λ l. rows_of n (map values columns) ++ l)
      (rows_of-take k (m - from) _ within ∙ ap (take k) (rows_of-drop from m _ o)))

-- What a call leaves that changes all values by F: `given` is the slice that was passed, `now` what
-- is left there, and the Vec has `len` columns.
module _ (F : List (List Value) → List (List Value)) (columns given now : List Column) (len : ℕ)
    (g : given ≡ columns) (l : length now ≡ length given) (w : len ≡ length columns)
    (v : map values now ≡ F (map values given)) where
  abbrev left : List Column
  left = take len (now ++ drop (length now) columns)

  left_is : left ≡ now
  left_is = written_back columns now len (l ∙ ap length g) w

  cells_are : map values now ≡ F (map values columns)
  cells_are = v ∙ ap (λ l. F (map values l)) g

  pub columns_after : (types : List ColumnType) (count : ℕ) → map column_type columns ≡ types
      → map column_type now ≡ map column_type given → AreLong count (F (map values columns))
      → AreColumns types left count
  columns_after types count t k long = rw left_is
      (record { kinds = k ∙ ap (map column_type) g ∙ t; long = rw cells_are long })

  pub rows_after : (count : ℕ) {rows : List Row} → rows_of count (F (map values columns)) ≡ rows
      → rows_of count (map values left) ≡ rows
  rows_after count e = rw (left_is, cells_are) e

pub length_rows : (types : List ColumnType) (columns : List Column) (n : ℕ)
    → AreColumns types columns n → length (rows_of n (map values columns)) ≡ n
length_rows types columns n h = length-rows_of n (map values columns) h.long

-- a chunk is a table
pub is_table : (types : List ColumnType) (columns : List Column) (n : ℕ) (t : Table)
    → AreColumns types columns n
    → record { types = types; rows = rows_of n (map values columns) } ≡ t → IsTable t
is_table types columns n t h e = search (arith, rows_fit)

-- rows after no rows
pub taken_step : (types : List ColumnType) (columns : List Column) (n : ℕ) (old other : Table)
    (rows : List Row) → AreColumns types columns n → n ≡ 0 → record {
      types = types;
      rows =
          rows_of n (map values columns);
    } ≡ old → rows ≡ other.rows → rows ≡ old.rows ++ other.rows
taken_step types columns n old other rows h z o e =
    let none : old.rows ≡ [] = nil_from_length old.rows
    (ap (λ t. length t.rows) (sym o) ∙ length_rows types columns n h ∙ z) in
    rw none e

-- columns beside columns
pub beside_long : (columns others all : List Column) (n m k : ℕ) → all ≡ columns ++ others → k ≡ n
    → m ≡ n → AreLong n (map values columns) → AreLong m (map values others)
    → AreLong k (map values all)
beside_long columns others all n m k e kn mn h g = search (arith, map-append, AreLong-append)

pub beside_kinds : (columns others all : List Column) (types more : List ColumnType)
    → all ≡ columns ++ others → map column_type columns ≡ types → map column_type others ≡ more
    → map column_type all ≡ types ++ more
beside_kinds columns others all types more e k l = search (arith, map-append, append_same)

pub beside_rows : (columns others all : List Column) (n m k : ℕ) (rows more : List Row)
    → all ≡ columns ++ others → k ≡ n → m ≡ n → AreLong m (map values others)
    → rows_of n (map values columns) ≡ rows → rows_of m (map values others) ≡ more
    → rows_of k (map values all) ≡ append_each rows more
beside_rows columns others all n m k rows more e kn mn g r t =
    search (arith, map-append, rows_of-append)

pub ruleset chunks = (length_rows, AreColumns-empty, rows_of_empty, column_of)

pub column_long : (columns : List Column) (n i : ℕ) (x : Column) → AreLong n (map values columns)
    → i < length columns → x ≡ get_or columns i x → length (values x) ≡ n
column_long columns n i x h lt is =
    ap (λ c. length (values c)) is ∙ column_at_long columns n i x h lt

pub places_step : (types : List ColumnType) (columns given now : List Column) (places : List ℕ)
    (n : ℕ) → AreColumns types columns n → All (λ p. p < n) places → given ≡ columns
    → map column_type now ≡ map column_type given
    → map values now ≡ map (λ column. map (value_at column)
    places) (map values given) → (AreColumns types now (length places)) × (rows_of (length places)
    (map values now) ≡ map (row_at (rows_of n (map values columns))) places)
places_step types columns given now places n h a g k v =
    let cells : map values now ≡ map (λ column. map (value_at column) places) (map values columns) =
    v ∙ ap (λ l. map (λ column. map (value_at column) places) (map values l)) g in (
      record {
        kinds = k ∙ ap (λ l. map column_type l) g ∙ h.kinds;
        long =
            rw cells (AreLong-places places (map values columns) _);
      },
      rw cells (rows_of-places n (map values columns) places _ h.long a),
    )

pub row_more : (columns : List Column) (n i at : ℕ) (x : Column) (v : Value) (row : List Value)
    → AreLong n (map values columns) → i < n → at < length columns → x ≡ get_or columns at x → v
    ≡ value_at (values x) i → row ≡ map (λ column. value_at column i) (map values (take at columns))
    → row ++ v ∷ [] ≡ map (λ column. value_at column i) (map values (take (at + 1) columns))
row_more columns n i at x v row h lt la is e r =
    let more : take (at + 1) columns ≡ take at columns ++ get_or columns at x ∷ [] =
    take_more columns at x la in
    let same : get_or columns at x ≡ x = sym is in
    rw (more, same, map-append, map-append, ← r, ← e) refl
