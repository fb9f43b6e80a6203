-- Where a right side's keys are, and the pairs of rows that a left chunk's rows make with them.
use Rattle.chunk_data.specs.Names.{Row, Table, append_each, is_null, row_at}
use Rattle.join_proc.specs.declared.join_index.JoinIndex.{JoinIndex}
use Rattle.join_proc.specs.declared.left_rows.LeftRows.{LeftRows}
use Rattle.join_proc.specs.declared.left_rows.PlacePairs.{PlacePairs}
use Rattle.join_proc.specs.declared.left_rows.LeftStart.{LeftStart}
use Rattle.key_codes.specs.Keys.{HasKey, IsSeenFor, codes_in, key_at, places_from, plain_types_at, row_code, same_code, with_key}
use Rattle.proc_api.specs.Prelude.{JoinSpec, KeyPair}
use Rattle.query_model.specs.Names.{agree, joined_rows}
use Rattle.std.specs.List.{All, list_any, position_or_len}
use Rattle.std.specs.Prelude.{Bool, List, [], cond, drop, filter, flat_map, fold, length, map, max, nat_eq, nat_lt, not, slice_index_or, slice_set, suc, true, ℕ, ◌&&◌, ◌++◌, ◌+◌, ◌<◌, ◌∷◌, ◌≡◌, ◌≤◌, ◌⊎◌}

-- the columns of either side that must agree
abbrev pub left_places : List KeyPair → List ℕ
left_places pairs = map (λ (pair : KeyPair). pair.left) pairs

abbrev pub right_places : List KeyPair → List ℕ
right_places pairs = map (λ (pair : KeyPair). pair.right) pairs

-- ---- the right side

-- the place of each row's key among the keys, in order of first appearance
abbrev pub key_places : List ℕ → List Row → List ℕ
key_places columns rows = places_from true same_code [] (map (row_code columns) rows)

-- the codes of the keys
abbrev pub key_codes : List ℕ → List Row → List (List ℕ)
key_codes columns rows = fold (with_key true same_code) [] (map (row_code columns) rows)

-- the first row from a row on whose key has the place
abbrev pub row_after : ℕ → List ℕ → ℕ → ℕ
row_after p places r = r + position_or_len (nat_eq p) (drop r places)

-- The rows from a row on are linked: of each key the first of them, and of each of them the next.
pub record AreLinked (places : List ℕ) (from : ℕ) (firsts nexts : List ℕ) : Type 0 where
  pub long : length nexts ≡ length places
  pub firsts_are : (p : ℕ) → p < length firsts
      → slice_index_or firsts p 0 ≡ row_after p places from
  pub nexts_are : (r : ℕ) → from ≤ r → r < length places
      → slice_index_or nexts r 0 ≡ row_after (slice_index_or places r 0) places (suc r)

-- the index of its rows by their columns of the pairs
pub record IsIndexOf (pairs : List KeyPair) (x : JoinIndex) : Type 0 where
  pub form : IsSeenFor (plain_types_at x.rows.types (right_places pairs)) x.seen
  pub cells : All (HasKey x.rows.types (right_places pairs)) x.rows.rows
  pub codes : codes_in x.seen ≡ key_codes (right_places pairs) x.rows.rows
  pub many : length x.firsts.items ≡ suc (length (codes_in x.seen))
  pub linked : AreLinked (key_places (right_places pairs) x.rows.rows) 0 x.firsts.items
      x.nexts.items

-- ---- a left chunk

abbrev pub no_start : LeftStart
no_start = record { left = 0; next = 0 }

-- no value of the row's key is NULL, so that it may agree with others
abbrev pub is_full : List ℕ → Row → Bool
is_full columns row = not (list_any is_null (key_at columns row))

-- the rows at these places that have a full key and a first right row, from row i on
abbrev pub starts_at : (firsts : List ℕ) (rows i : ℕ) → (places : List ℕ) → (full : List Bool)
    → List LeftStart
starts_at firsts rows i [] full = []
starts_at firsts rows i (p ∷ places) [] = []
starts_at firsts rows i (p ∷ places) (f ∷ full) =
    cond (nat_lt (slice_index_or firsts p 0) rows && f)
    (record { left = i; next = slice_index_or firsts p 0 }
    ∷ starts_at firsts rows (suc i) places full)
    (starts_at firsts rows (suc i) places full)

-- a left row, and a right row that agrees with it
pub record IsStart (pairs : List KeyPair) (left right : List Row) (s : LeftStart) : Type 0 where
  pub left_within : s.left < length left
  pub right_within : s.next < length right
  pub agrees : agree pairs (row_at left s.left) (row_at right s.next) ≡ true

-- the left row beside each right row from there on that agrees with it
abbrev pub start_rows : List KeyPair → (left right : List Row) → LeftStart → List Row
start_rows pairs left right s =
    map (λ r. row_at left s.left ++ r)
    (filter (agree pairs (row_at left s.left)) (drop s.next right))

-- the rows that a left chunk still makes
abbrev pub rows_to_join : List KeyPair → List Row → LeftRows → List Row
rows_to_join pairs right l =
    flat_map (start_rows pairs l.chunk.rows right) (drop l.at l.starts.items)

abbrev pub AreFit : List KeyPair → List Row → LeftRows → Type 0
AreFit pairs right l = All (IsStart pairs l.chunk.rows right) l.starts.items

-- none of its rows is joined yet
pub record AreStarts (pairs : List KeyPair) (left right : List Row) (l : LeftRows) : Type 0 where
  pub rows_are : l.chunk.rows ≡ left
  pub fit : AreFit pairs right l
  pub all_left : rows_to_join pairs right l ≡ joined_rows pairs left right

-- it goes on to the right row behind, or where there is none to the next left row
pub record MovesOn (left next rows : ℕ) (old new : LeftRows) : Type 0 where
  pub chunk : new.chunk ≡ old.chunk
  pub on : next < rows → (new.at ≡ old.at) × (new.starts.items
      ≡ slice_set old.starts.items old.at (record { left = left; next = next }))
  pub over : rows ≤ next → (new.at ≡ suc old.at) × (new.starts.items ≡ old.starts.items)

-- the rows at the places, side by side
abbrev pub paired : (left right : List Row) → PlacePairs → List Row
paired left right places =
    append_each (map (row_at left) places.lefts.items) (map (row_at right) places.rights.items)

-- one pair more was taken of the rows that were left
pub record PairsMore (pairs : List KeyPair) (right : List Row) (old new : LeftRows)
    (places more : PlacePairs) : Type 0 where
  pub start : LeftStart
  pub left_within : start.left < length old.chunk.rows
  pub right_within : start.next < length right
  pub lefts : more.lefts.items ≡ places.lefts.items ++ start.left ∷ []
  pub rights : more.rights.items ≡ places.rights.items ++ start.next ∷ []
  pub rows : rows_to_join pairs right old
      ≡ (row_at old.chunk.rows start.left ++ row_at right start.next) ∷ rows_to_join pairs right new

-- the pairs at the places were taken
pub record JoinsRows (pairs : List KeyPair) (right : List Row) (old new : LeftRows)
    (places : PlacePairs) : Type 0 where
  pub lefts : All (λ p. p < length old.chunk.rows) places.lefts.items
  pub rights : All (λ p. p < length right) places.rights.items
  pub same : length places.lefts.items ≡ length places.rights.items
  pub rows : paired old.chunk.rows right places ++ rows_to_join pairs right new
      ≡ rows_to_join pairs right old

-- a chunk of the next rows, which has some where there are
pub record JoinsSome (join : JoinSpec) (x : JoinIndex) (old new : LeftRows) (t : Table) : Type 0
  where
    pub types : t.types ≡ old.chunk.types ++ x.rows.types
    pub few : length t.rows ≤ max join.rows 1
    pub some : (0 < length t.rows) ⊎ (rows_to_join join.pairs x.rows.rows new ≡ [])
    pub rows : rows_to_join join.pairs x.rows.rows old
        ≡ t.rows ++ rows_to_join join.pairs x.rows.rows new
