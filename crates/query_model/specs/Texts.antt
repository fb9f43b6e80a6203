-- The text of an answer.
use Rattle.std.specs.Prelude.{if◌then◌else◌, ◌++◌, ◌==◌, ◌∷◌}
use Rattle.query_model.specs.Prelude.{Bool, Int, List, Null, Row, Text, UInt, Value, [], decimal, false, flat_map, join_with_byte, map, signed_decimal, suc, take, true, zero, ℕ}
use Rattle.query_model.specs.Fields.{null_text}

-- a byte inside of quotes: a quote is doubled
abbrev pub doubled : ℕ → List ℕ
doubled b = if b == 34 then 34 ∷ 34 ∷ [] else b ∷ []

-- a text in quotes, with each quote doubled
abbrev pub quoted : List ℕ → List ℕ
quoted bytes = 34 ∷ (flat_map doubled bytes ++ 34 ∷ [])

abbrev pub value_text : Value → List ℕ
value_text (Int z) = signed_decimal z
value_text (UInt n) = decimal n
value_text (Text bytes) = quoted bytes
value_text Null = null_text

-- the values with commas between them, and a line feed
abbrev pub row_text : Row → List ℕ
row_text row = join_with_byte 44 (map value_text row) ++ 10 ∷ []

-- what stands in front of the value with place i
abbrev pub separator : ℕ → List ℕ
separator zero = []
separator (suc i) = 44 ∷ []

-- the first i values with commas between them
abbrev pub row_front : Row → ℕ → List ℕ
row_front row i = join_with_byte 44 (map value_text (take i row))

abbrev pub rows_text : List Row → List ℕ
rows_text rows = flat_map row_text rows

-- the text of an answer, behind the line of names where that is asked for
abbrev pub answer_text : Bool → List (List ℕ) → List Row → List ℕ
answer_text true names rows = row_text (map Text names) ++ rows_text rows
answer_text false names rows = rows_text rows
