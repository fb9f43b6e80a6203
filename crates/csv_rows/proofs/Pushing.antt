-- records that are added to columns field by field
use Rattle.csv_rows.proofs.Imports.{Joined-back, Joined-none, RecordRead, Fields as fields_field, Bool, List, None, [], ap, append_assoc, ap₂, arith, drop, false, get_or, length, map, refl, set, suc, take, true, ℕ, ◌++◌, ◌+◌, ◌<◌, ◌∙◌, ◌∷◌, ◌≡◌, ◌≢◌, ◌≤◌, sym, AddsRecord, AddsSpelled, AreLong, AreLong_push, BeginsFields, Column, EndsRecord, FieldUpTo, HasMore, IsBadRecordAt, PushesField, PushesFirst, ReadsFirst, ReadsFront, RowsLeft, CanTakeBack, TakesRow, at_end, bad_column, bad_field-lengths, bad_place, both_spelled, get_or-map, good_rows, column_type, length-FitsTypes, length-append, length-map, length-rows_of, map-set, rows_of, rows_of_push, set-get_or, spelled_row, spelled_row-lengths, spelled_value, starts_line, starts_with, take_at, values}
use Rattle.csv_rows.proofs.FieldPlaces.{first_is, first_within}
use Rattle.csv_rows.proofs.MachineSteps.{one_more, record_starts}

-- the fields were added to the first columns, one to each, and the others are as they were
abbrev pub Front : List (List ℕ) → List Column → List Column → Type 0
Front [] old now = now ≡ old
Front (f ∷ fields) (o ∷ old) (n ∷ now) =
    (column_type n ≡ column_type o) × AddsSpelled f o n × Front fields old now
Front (f ∷ fields) old now = ⊥

-- one field more
pub front_more : (fields : List (List ℕ)) (f : List ℕ) (old now : List Column) (i : ℕ)
    (d y : Column) → Front fields old now → length fields ≡ i → i < length now
    → column_type y ≡ column_type (get_or now i d) → AddsSpelled f (get_or now i d) y
    → Front (fields ++ f ∷ []) old (set now i y)
front_more (g ∷ fields) f (o ∷ old) (n ∷ now) (suc i) d y h e lt k a =
    (h.0, h.1, front_more fields f old now i d y h.2 (omega (arith, e)) (omega (arith, lt)) k a)
front_more fields f old now i d y h e lt k a = grind arith

-- a field for each column
pub front_all : (fields : List (List ℕ)) (old now : List Column) → Front fields old now
    → length fields ≡ length old → AddsRecord fields old now
unfolding spelled_row
front_all [] [] now h e = record { row = []; spells = refl; added = ap (map values) h }
front_all (f ∷ fields) (o ∷ old) (n ∷ now) h e =
    let rest = front_all fields old now h.2 (omega (arith, e)) in
    record {
      row = h.1.value ∷ rest.row;
      spells = ap₂ both_spelled h.1.spells rest.spells;
      added = ap₂ ◌∷◌ h.1.added rest.added;
    }
front_all fields old now h e = grind arith

pub front_kinds : (fields : List (List ℕ)) (old now : List Column) → Front fields old now
    → map column_type now ≡ map column_type old
front_kinds (f ∷ fields) (o ∷ old) (n ∷ now) h = ap₂ ◌∷◌ h.0 (front_kinds fields old now h.2)
front_kinds fields old now h = grind arith

pub front_long : (fields : List (List ℕ)) (old now : List Column) → Front fields old now
    → length now ≡ length old
front_long fields old now h = grind (arith, length-map, front_kinds)

-- what was added is taken back
pub front_back : (fields : List (List ℕ)) (old now : List Column) → Front fields old now
    → CanTakeBack old now
front_back fields old now h = record {
  kinds = front_kinds fields old now h;
  front = λ n long. go n fields old now h long;
}
  where
    go : (n : ℕ) (fields : List (List ℕ)) (old now : List Column) → Front fields old now
        → AreLong n (map values old) → map (take n) (map values now) ≡ map values old
    go n [] old now h long =
        ap (λ l. map (take n) (map values l)) h ∙ Joined-back n (Joined-none [] old) long
    go n (f ∷ fields) (o ∷ old) (x ∷ now) h long =
        ap₂ ◌∷◌ (ap (take n) h.1.added ∙ take_at (values o) (h.1.value ∷ []) n long.0)
        (go n fields old now h.2 long.1)
    go n (f ∷ fields) old now h long = absurd h

-- the field behind them spells no value
front_stops : (fields : List (List ℕ)) (f : List ℕ) (more : List (List ℕ)) (old now : List Column)
    (d : Column) → Front fields old now → length fields < length now
    → spelled_value (column_type (get_or now (length fields) d)) f ≡ None
    → (spelled_row (map column_type old) (fields ++ f ∷ more) ≡ None)
    × ((c : ℕ) → bad_column c (map column_type old) (fields ++ f ∷ more) ≡ c + length fields)
unfolding spelled_row bad_column
front_stops [] f more old (n ∷ now) d h lt u = grind arith
front_stops (g ∷ fields) f more (o ∷ old) (n ∷ now) d h lt u =
    grind (arith, front_stops fields f more old now d h.2 (omega (arith, lt)) u)
front_stops fields f more old now d h lt u = grind arith

-- the same where column i was then left as it is
pub back_at : (fields : List (List ℕ)) (old now : List Column) (i : ℕ) (d y : Column)
    → Front fields old now → i < length now → column_type y ≡ column_type (get_or now i d)
    → values y ≡ values (get_or now i d) → CanTakeBack old (set now i y)
back_at fields old now i d y h lt k v = record {
  kinds = same column_type k ∙ (front_back fields old now h).kinds;
  front = λ n long. ap (map (take n)) (same values v) ∙ (front_back fields old now h).front n long;
}
  where
    same : {X : Type 0} (f : Column → X) → f y ≡ f (get_or now i d)
        → map f (set now i y) ≡ map f now
    same f e = map-set f now i y ∙ ap (set (map f now) i) (e
        ∙ sym (get_or-map f now i d (f d) lt)) ∙ set-get_or (map f now) i (f d)

-- the fields that were read and added to columns
pub record RowSoFar (bytes : List ℕ) (at place : ℕ) (old now : List Column) (i : ℕ) : Type 0 where
  pub fields : List (List ℕ)
  pub count : length fields ≡ i
  pub begins : BeginsFields (drop at bytes) fields (drop place bytes)
  pub within : place ≤ length bytes
  pub added : Front fields old now

-- no field was added yet
pub row_none : (bytes : List ℕ) (at : ℕ) (columns : List Column) → at ≤ length bytes
    → starts_line (drop at bytes) ≡ true → RowSoFar bytes at at columns columns 0
row_none bytes at columns le h = grind (arith, record_starts)

-- one field more, with a comma behind it
pub row_more : {bytes f : List ℕ} {at place end i : ℕ} {old now : List Column} → (d y : Column)
    → RowSoFar bytes at place old now i → i < length now → column_type y
    ≡ column_type (get_or now i d) → FieldUpTo bytes place f end → AddsSpelled f (get_or now i d) y
    → starts_with 44 (drop end bytes) ≡ true → RowSoFar bytes at (end + 1) old (set now i y) (i + 1)
row_more {bytes = bytes} {f = f} {end = end} {i = i} {old = old} {now = now} d y h lt k upto p c =
    grind (
      arith,
      one_more,
      first_is,
      first_within 44 bytes end c,
      length-append h.fields (f ∷ []),
      front_more h.fields f old now i d y h.added h.count lt k p,
    )

-- one field more, or one that spells no value, can be taken back
pub row_back : {bytes f : List ℕ} {at place end i : ℕ} {old now : List Column} → (spelled : Bool)
    (d y : Column) → RowSoFar bytes at place old now i → i < length now
    → column_type y ≡ column_type (get_or now i d) → FieldUpTo bytes place f end
    → PushesField f spelled (get_or now i d) y → CanTakeBack old (set now i y)
row_back {f = f} {i = i} {old = old} {now = now} true d y h lt k upto p =
    front_back (h.fields ++ f ∷ []) old (set now i y)
    (front_more h.fields f old now i d y h.added h.count lt k p)
row_back {i = i} {old = old} {now = now} false d y h lt k upto p =
    back_at h.fields old now i d y h.added lt k (ap values p.1)

-- what was added can be taken back
pub ruleset backs = (front_back, back_at, row_back)

-- the record ends with one field and those behind it
row_reads : {bytes f : List ℕ} {at place end next i : ℕ} {old now : List Column}
    → (more : List (List ℕ)) (h : RowSoFar bytes at place old now i) → FieldUpTo bytes place f end
    → EndsRecord bytes end more next → ReadsFirst bytes at (h.fields ++ f ∷ more) next
row_reads more h upto line = grind arith

-- that field is the last, or spells no value
pub row_ends : {bytes f : List ℕ} {at place end i : ℕ} {old now : List Column} {read : RecordRead}
    → (d y : Column) (more : List (List ℕ)) → RowSoFar bytes at place old now i → i < length now
    → column_type y ≡ column_type (get_or now i d) → FieldUpTo bytes place f end
    → PushesField f read.whole (get_or now i d) y → EndsRecord bytes end more read.next
    → read.count ≡ i + 1 + length more → read.last ≡ i → (read.whole ≡ true → more ≡ [])
    → PushesFirst bytes at read old (set now i y)
row_ends {f = f} {i = i} {old = old} {now = now} d y more h lt k upto p line count at-i last =
    grind (
      arith,
      front_all,
      front_more,
      front_stops,
      length-append h.fields (f ∷ more),
      row_reads more h upto line,
      length-append h.fields (f ∷ []),
      front_long h.fields old now h.added,
    )

-- more fields than columns
pub row_beyond : {bytes f : List ℕ} {at place end i more : ℕ} {old now : List Column}
    {read : RecordRead} → RowSoFar bytes at place old now i → length now ≤ i
    → FieldUpTo bytes place f end → HasMore bytes end more read.next → read.count ≡ i + 1 + more
    → PushesFirst bytes at read old now
row_beyond {f = f} {old = old} {now = now} h all upto p count = record {
  fields = h.fields ++ f ∷ p.more;
  many = omega (arith, length-append h.fields (f ∷ p.more), h.count, p.many, count);
  reads = row_reads p.more h upto p.ends;
  judged = λ same. absurd (omega (arith, same, count, all, front_long h.fields old now h.added));
}

no_items : {X : Type 0} (xs : List X) → length xs ≡ 0 → xs ≡ []
no_items [] h = refl
no_items (x ∷ xs) h = absurd (omega arith)

-- the record has another number of fields than there are columns
pub first_lengths : {bytes : List ℕ} {at : ℕ} {read : RecordRead} {old new : List Column}
    → (number : ℕ) → PushesFirst bytes at read old new → read.count ≢ length old
    → IsBadRecordAt old bytes at number (record { row = number; field = fields_field read.count })
first_lengths number h many = grind (arith, length-map, spelled_row-lengths, bad_field-lengths)

-- the records in front of those that are left now are rows of the columns
pub record ReadSoFar (old now : List Column) (before after : RowsLeft)
    (rows most : ℕ) : Type 0 where
  pub kinds : map column_type now ≡ map column_type old
  pub long : AreLong rows (map values now)
  pub good : good_rows (map column_type old) before.rest
      ≡ rows_of rows (map values now) ++ good_rows (map column_type old) after.rest
  pub places : bad_place (before.count + 1) (map column_type old) before.rest
      ≡ bad_place (after.count + 1) (map column_type old) after.rest
  pub within : rows ≤ most
  pub unread : rows ≡ 0 → after.rest ≡ before.rest

-- no record was read yet
pub ReadSoFar-none : (old : List Column) (before : RowsLeft) (most : ℕ) → AreLong 0 (map values old)
    → ReadSoFar old old before before 0 most
ReadSoFar-none old before most h = grind (arith, no_items, length-rows_of)

-- one record more
pub ReadSoFar-more : {old now new : List Column} {before after later : RowsLeft} {rows most : ℕ}
    → ReadSoFar old now before after rows most → rows < most
    → map column_type new ≡ map column_type now → TakesRow after later now new
    → ReadSoFar old new before later (rows + 1) most
ReadSoFar-more h lt k a =
    grind (arith, length-FitsTypes, length-map, rows_of_push, AreLong_push, append_assoc)

-- what was read so far is what is given
pub ReadSoFar-stop : {old now : List Column} {before after : RowsLeft} {rows most : ℕ}
    → ReadSoFar old now before after rows most
    → (at_end before.rest ≡ false → 0 < most → 0 < rows)
    → ReadsFront (map column_type old) before after (map values now) rows most
ReadSoFar-stop h some = grind (arith, length-rows_of)

-- a record was read, where none is left of some
pub ReadSoFar-some : {old now : List Column} {before after : RowsLeft} {rows most : ℕ}
    → ReadSoFar old now before after rows most → at_end after.rest ≡ true
    → at_end before.rest ≡ false → 0 < rows
ReadSoFar-some h over left = grind arith
