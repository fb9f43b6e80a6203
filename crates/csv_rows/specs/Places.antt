-- Fields and records of the default dialect, by the bytes that end them and by the places in a text
-- where they begin and end, and what they add to columns.
use Rattle.std.specs.Prelude.{◌≡◌, ℕ, ◌+◌, ◌-◌, ◌<◌, ◌≤◌, ◌==◌, ◌||◌, Bool, true, false, not, List, [], ◌∷◌, ◌++◌, length, map, take, drop, Some, None, suc, ⊤}
use Rattle.csv.specs.Machine.{next_record}
use Rattle.csv.specs.Reading.{default_config, records_from}
use Rattle.csv.specs.declared.parser.State.TheVariants as st
use Rattle.chunk_data.specs.Names.{column_type, values, Row, AreLong, append_each}
use Rattle.chunk_data.specs.declared.typed_value.Value.{Value}
use Rattle.chunk_data.specs.declared.typed_column.Column.{Column}
use Rattle.query_model.specs.Names.{spelled_value, spelled_row, bad_column, bad_field, part_records}
use Rattle.query_model.specs.declared.places.BadPlace.{BadPlace}
use Rattle.csv_rows.specs.declared.rows.RowsFault.{RowsFault}
use Rattle.csv_rows.specs.declared.rows.RowsFault.TheVariants.{Bad, Memory}
use Rattle.csv_rows.specs.declared.record_by_field.RecordRead.{RecordRead}

-- a byte that ends a line
abbrev pub is_line_end : ℕ → Bool
is_line_end c = (c == 10) || (c == 13)

-- a byte that ends a field without quotes: a comma, LF or CR
abbrev pub is_mark : ℕ → Bool
is_mark c = (c == 44) || is_line_end c

-- a byte that is no mark
abbrev pub no_mark : ℕ → Bool
no_mark c = not (is_mark c)

-- a byte that is no quote
abbrev pub no_quote : ℕ → Bool
no_quote c = not (c == 34)

-- whether the first byte passes the test; `none` of a text without bytes
abbrev pub first_or : Bool → (ℕ → Bool) → List ℕ → Bool
first_or none test [] = none
first_or none test (c ∷ xs) = test c

-- nothing, or a mark first
abbrev pub at_mark : List ℕ → Bool
at_mark xs = first_or true is_mark xs

-- this byte first
abbrev pub starts_with : ℕ → List ℕ → Bool
starts_with c xs = first_or false (λ x. x == c) xs

-- there is a first byte, and it ends no line
abbrev pub starts_line : List ℕ → Bool
starts_line xs = first_or false (λ c. not (is_line_end c)) xs

-- The text xs begins with a field of these bytes, behind which `rest` stands: whatever fields are
-- in front of it, the machine of the `csv` crate is at the end of this field there.
pub record BeginsField (xs field rest : List ℕ) : Type 0 where
  pub reads : (fields : List (List ℕ))
      → next_record default_config st.StartField fields [] xs
      ≡ next_record default_config st.InField fields field rest
  pub ends : at_mark rest ≡ true

-- The text xs begins with these fields of a record, of which more stand in `rest`.
pub record BeginsFields (xs : List ℕ) (fields : List (List ℕ)) (rest : List ℕ) : Type 0 where
  pub reads : next_record default_config st.StartRecord [] [] xs
      ≡ next_record default_config st.StartField fields [] rest

-- The first record of the text xs has these fields, and `rest` stands behind it.
pub record FirstRecord (xs : List ℕ) (fields : List (List ℕ)) (rest : List ℕ) : Type 0 where
  pub reads : (n : ℕ) → records_from default_config (suc n) st.StartRecord xs
      ≡ fields ∷ records_from default_config n st.StartRecord rest

-- the records from a place on, as many as `left`
abbrev pub records_at : (left : ℕ) (bytes : List ℕ) (at : ℕ) → List (List (List ℕ))
records_at left bytes at = records_from default_config left st.StartRecord (drop at bytes)

-- the bytes from a place up to another
abbrev pub bytes_between : List ℕ → ℕ → ℕ → List ℕ
bytes_between bytes at end = take (end - at) (drop at bytes)

-- the field at a place has these bytes and ends there
pub record FieldUpTo (bytes : List ℕ) (at : ℕ) (field : List ℕ) (end : ℕ) : Type 0 where
  pub low : at ≤ end
  pub high : end ≤ length bytes
  pub begins : BeginsField (drop at bytes) field (drop end bytes)

-- a record begins at the place, or the text ends there
pub record StartsLine (bytes : List ℕ) (at : ℕ) : Type 0 where
  pub within : at ≤ length bytes
  pub line : at < length bytes → starts_line (drop at bytes) ≡ true

-- only ends of lines stand between the places
pub record SkipsEnds (bytes : List ℕ) (at next : ℕ) : Type 0 where
  pub same : (left : ℕ) → records_at left bytes at ≡ records_at left bytes next
  pub starts : StartsLine bytes next

-- behind a field that ends at the first place its record has these fields more, and the next one
-- begins at the second
pub record EndsRecord (bytes : List ℕ) (end : ℕ) (more : List (List ℕ)) (next : ℕ) : Type 0 where
  pub ends : (xs mid : List ℕ) (fields : List (List ℕ)) (field : List ℕ)
      → BeginsFields xs fields mid → BeginsField mid field (drop end bytes)
      → FirstRecord xs (fields ++ field ∷ more) (drop next bytes)
  pub starts : StartsLine bytes next

-- behind a field that ends at the place its record has so many fields more
pub record HasMore (bytes : List ℕ) (end count next : ℕ) : Type 0 where
  pub more : List (List ℕ)
  pub many : length more ≡ count
  pub few : count ≤ length bytes
  pub ends : EndsRecord bytes end more next

-- a fact about the bad place, where one is told
abbrev pub OnBad : RowsFault → (BadPlace → Type 0) → Type 0
OnBad (Bad place) P = P place
OnBad Memory P = ⊤

-- a column got the value that the field spells at its end
pub record AddsSpelled (field : List ℕ) (old new : Column) : Type 0 where
  pub value : Value
  pub spells : spelled_value (column_type old) field ≡ Some value
  pub added : values new ≡ values old ++ value ∷ []

-- what a field did to a column: its value was added, or it spells none
abbrev pub PushesField : List ℕ → Bool → Column → Column → Type 0
PushesField field true old new = AddsSpelled field old new
PushesField field false old new = (spelled_value (column_type old) field ≡ None) × (new ≡ old)

-- each column got its value of the row that the fields spell
pub record AddsRecord (fields : List (List ℕ)) (old new : List Column) : Type 0 where
  pub row : Row
  pub spells : spelled_row (map column_type old) fields ≡ Some row
  pub added : map values new ≡ append_each (map values old) (map (λ v. v ∷ []) row)

-- what was added to columns can be taken back
pub record CanTakeBack (old new : List Column) : Type 0 where
  pub kinds : map column_type new ≡ map column_type old
  pub front : (n : ℕ) → AreLong n (map values old)
      → map (take n) (map values new) ≡ map values old

-- the record at a place has these fields, and the next one begins there
pub record ReadsFirst (bytes : List ℕ) (at : ℕ) (fields : List (List ℕ)) (next : ℕ) : Type 0 where
  pub is : FirstRecord (drop at bytes) fields (drop next bytes)
  pub starts : StartsLine bytes next

-- the field of this column is the first that spells no value of its column
pub record StopsAtField (column : ℕ) (fields : List (List ℕ)) (columns : List Column) : Type 0 where
  pub low : column < length columns
  pub unspelled : spelled_row (map column_type columns) fields ≡ None
  pub first : bad_column 1 (map column_type columns) fields ≡ column + 1

-- the columns got a row of the fields, or the field of this column spells no value
abbrev pub Judged : (whole : Bool) (last : ℕ) (fields : List (List ℕ)) (old new : List Column)
    → Type 0
Judged true last fields old new = AddsRecord fields old new
Judged false last fields old new = StopsAtField last fields old

-- the record at a place was read, and its fields were added to columns up to the first that spells
-- no value
pub record PushesFirst (bytes : List ℕ) (at : ℕ) (read : RecordRead) (old new : List Column)
    : Type 0 where
  pub fields : List (List ℕ)
  pub many : length fields ≡ read.count
  pub reads : ReadsFirst bytes at fields read.next
  pub judged : read.count ≡ length old → Judged read.whole read.last fields old new

-- the record at a place was added to columns as one row, and the next one begins there
pub record AddsFirst (bytes : List ℕ) (at next : ℕ) (old new : List Column) : Type 0 where
  pub fields : List (List ℕ)
  pub reads : ReadsFirst bytes at fields next
  pub adds : AddsRecord fields old new

-- the record at a place, which has this number, is no row of the columns, and the place says why
pub record IsBadRecordAt (columns : List Column) (bytes : List ℕ) (at number : ℕ) (place : BadPlace)
    : Type 0 where
  pub fields : List (List ℕ)
  pub next : ℕ
  pub reads : ReadsFirst bytes at fields next
  pub unspelled : spelled_row (map column_type columns) fields ≡ None
  pub is : place ≡ record { row = number; field = bad_field (map column_type columns) fields }

-- the rows of a part begin at the place, of which no more than `left` can come
pub record StartsPart (header : Bool) (bytes : List ℕ) (at left : ℕ) : Type 0 where
  pub is : records_at left bytes at ≡ part_records header bytes
  pub starts : StartsLine bytes at
