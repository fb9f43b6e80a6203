-- The value that a field of a CSV record spells, and what a value is written as.
use Rattle.std.specs.Prelude.{if◌then◌else◌, ◌&&◌, ◌*◌, ◌+◌, ◌-◌, ◌==◌, ◌^◌, ◌∷◌}
use Rattle.std.specs.Char.{is_ascii_digit}
use Rattle.query_model.specs.Prelude.{Bool, ColumnType, Int, List, None, Null, Option, Row, Some, Text, UInt, Value, [], bytes_eq, false, fold, list_all, nat_lt, neg_ℤ, option_map, pos, ℕ, ℤ}
use Rattle.chunk_data.specs.Values.{is_nullable, plain_type}
use Rattle.chunk_data.specs.declared.typed_value.PlainType.{PlainType}
use Rattle.chunk_data.specs.declared.typed_value.PlainType.TheVariants as plain

-- one or more digits, and the number that they spell
abbrev pub is_numeral : List ℕ → Bool
is_numeral [] = false
is_numeral (b ∷ bytes) = list_all is_ascii_digit (b ∷ bytes)

abbrev pub numeral_value : List ℕ → ℕ
numeral_value bytes = fold (λ n b. n * 10 + (b - 48)) 0 bytes

-- a numeral below a limit
abbrev pub numeral_below : ℕ → List ℕ → Option ℕ
numeral_below limit bytes = if is_numeral bytes && nat_lt (numeral_value bytes) limit
    then Some (numeral_value bytes) else None

abbrev pub spelled_int : List ℕ → Option ℤ
spelled_int [] = None
spelled_int (b ∷ bytes) =
    if b == 45 then option_map (λ n. neg_ℤ (pos n)) (numeral_below (2 ^ 63 + 1) bytes)
    else option_map pos (numeral_below (2 ^ 63) (b ∷ bytes))

abbrev pub spelled_plain : PlainType → List ℕ → Option Value
spelled_plain plain.Int64 field = option_map Int (spelled_int field)
spelled_plain plain.UInt64 field = option_map UInt (numeral_below (2 ^ 64) field)
spelled_plain plain.Text field = Some (Text field)

-- how NULL is spelled and written: the two bytes `\N`
abbrev pub null_text : List ℕ
null_text = 92 ∷ 78 ∷ []

abbrev pub is_null_text : List ℕ → Bool
is_null_text field = bytes_eq field null_text

-- the value of a type that a field spells, which is NULL alone by its two bytes, quoted or not
abbrev pub spelled_value : ColumnType → List ℕ → Option Value
spelled_value t field = if is_nullable t && is_null_text field then Some Null
    else spelled_plain (plain_type t) field

-- a value in front of a row, where both are there
abbrev pub both_spelled : Option Value → Option Row → Option Row
both_spelled None row = None
both_spelled (Some v) row = option_map (λ r. v ∷ r) row

-- the row that a record spells: one field for each column, and each spells a value
unfoldable pub spelled_row : List ColumnType → List (List ℕ) → Option Row
spelled_row [] [] = Some []
spelled_row [] (field ∷ fields) = None
spelled_row (type ∷ types) [] = None
spelled_row (type ∷ types) (field ∷ fields) =
    both_spelled (spelled_value type field) (spelled_row types fields)
