-- The rows of a part, a file of comma-separated records, and its first bad place.
use Rattle.std.specs.Prelude.{if◌then◌else◌, ◌+◌, ◌==◌, ◌∷◌}
use Rattle.query_model.specs.Prelude.{BadField, BadPlace, Bool, Column, ColumnType, Fields, List, None, Option, Row, Some, [], default_config, drop, flat_map, is_some, length, records, strip_bom, ℕ}
use Rattle.query_model.specs.Fields.{spelled_value, spelled_row}

-- the records of a part: those of its bytes behind a byte order mark, without the first where that
-- is a header
unfoldable pub part_records : Bool → List ℕ → List (List (List ℕ))
part_records header bytes =
    drop (if header then 1 else 0) (records default_config (strip_bom bytes))

-- a row, and the rows after it; nothing where there is no row
abbrev pub row_then : Option Row → List Row → List Row
row_then None rows = []
row_then (Some row) rows = row ∷ rows

-- the rows of the records in front of the first that is not good
unfoldable pub good_rows : List ColumnType → List (List (List ℕ)) → List Row
good_rows types [] = []
good_rows types (record' ∷ more) = row_then (spelled_row types record') (good_rows types more)

-- the first field, counted from c, that spells no value of its column's type
unfoldable pub bad_column : ℕ → List ColumnType → List (List ℕ) → ℕ
bad_column c [] fields = c
bad_column c (type ∷ types) [] = c
bad_column c (type ∷ types) (field ∷ fields) = if is_some (spelled_value type field)
    then bad_column (c + 1) types fields else c

-- what is wrong with a record that is not good
abbrev pub bad_field : List ColumnType → List (List ℕ) → BadField
bad_field types fields = if length fields == length types then Column (bad_column 1 types fields)
    else Fields (length fields)

-- the place of the first of the records, counted from n, that is not good
unfoldable pub bad_place : ℕ → List ColumnType → List (List (List ℕ)) → Option BadPlace
bad_place n types [] = None
bad_place n types (record' ∷ more) =
    if is_some (spelled_row types record') then bad_place (n + 1) types more
    else Some (record { row = n; field = bad_field types record' })

-- the rows of a table of parts, in order of the parts
abbrev pub parts_rows : List ColumnType → Bool → List (List ℕ) → List Row
parts_rows types header parts =
    flat_map (λ bytes. good_rows types (part_records header bytes)) parts
