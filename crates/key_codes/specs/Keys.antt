-- The code of a key: a number's bits, a text's bytes, or the bytes of all values. It is the same
-- for equal keys alone, where NULL is equal to itself.
use Rattle.indexmap.specs.IndexSet.{IndexSet, insert_key}
use Rattle.key_codes.specs.declared.key_code.SeenKeys.{SeenKeys}
use Rattle.query_model.specs.Prelude.{ColumnType, Int, Null, Row, Text, UInt, Value, is_null, value_at}
use Rattle.std.specs.Cmp.Lexicographic.{pointwise}
use Rattle.std.specs.Int.{cast_signed, cast_unsigned, to_le_bytes}
use Rattle.std.specs.List.{list_any, position_or_len}
use Rattle.std.specs.Simd.Lanes.{zip2}
use Rattle.std.specs.Prelude.{Bool, IfSome, List, None, Option, Some, Vec, [], cond, drop, flat_map, fold, leb, length, map, nat_eq, false, slice_index_or, suc, take, true, ℕ, ◌++◌, ◌<◌, ◌^◌, ◌∷◌, ◌≡◌, ◌≤◌}
use mir.Syntax.{w64}
use Rattle.chunk_data.specs.Values.{is_plain_text, plain_type, type_at}
use Rattle.chunk_data.specs.declared.typed_value.PlainType.{PlainType}
use Rattle.chunk_data.specs.declared.typed_value.PlainType.TheVariants as plain
use Rattle.key_codes.specs.declared.key_code.SeenKeys.TheVariants as seen

-- the key of a row: its values at the places
abbrev pub key_at : List ℕ → Row → Row
key_at places row = map (value_at row) places

-- the plain types of the key's values
abbrev pub plain_types_at : List ColumnType → List ℕ → List PlainType
plain_types_at types places = map (λ c. plain_type (type_at types c)) places

-- the first of them, where there is one
abbrev pub first_plain_type : List PlainType → PlainType
first_plain_type kinds = slice_index_or kinds 0 plain.Text

-- the key's first column
abbrev pub first_key_column : List ℕ → ℕ
first_key_column places = slice_index_or places 0 0

-- a number's eight bytes, or a text's length and bytes; NULL's are those of 0
abbrev pub value_bytes : Value → List ℕ
value_bytes (Int z) = to_le_bytes w64 (cast_unsigned w64 z)
value_bytes (UInt n) = to_le_bytes w64 n
value_bytes (Text bytes) = to_le_bytes w64 (length bytes) ++ bytes
value_bytes Null = to_le_bytes w64 0

abbrev pub null_mark : Value → ℕ
null_mark v = cond (is_null v) 1 0

-- which values are NULL, where some are
abbrev pub null_marks : Row → List ℕ
null_marks key = cond (list_any is_null key) (map null_mark key) []

abbrev pub key_bytes : Row → List ℕ
key_bytes key = flat_map value_bytes key ++ null_marks key

-- bytes as a code, which is none of NULL's
abbrev pub byte_code : List ℕ → List ℕ
byte_code bytes = 0 ∷ bytes

-- the code of a key of one value
abbrev pub value_code : Value → List ℕ
value_code (Int z) = cast_unsigned w64 z ∷ []
value_code (UInt n) = n ∷ []
value_code (Text bytes) = byte_code bytes
value_code Null = []

abbrev pub key_code : Row → List ℕ
key_code [] = []
key_code (v ∷ []) = value_code v
key_code (v ∷ w ∷ key) = byte_code (key_bytes (v ∷ w ∷ key))

abbrev pub row_code : List ℕ → Row → List ℕ
row_code places row = key_code (key_at places row)

-- a value that a column of the plain type may have
abbrev pub IsCell : PlainType → Value → Type 0
IsCell t (Int z) = (t ≡ plain.Int64)
    × (cast_signed w64 (cast_unsigned w64 z) ≡ z) × (cast_unsigned w64 z < 2 ^ 64)
IsCell t (UInt n) = (t ≡ plain.UInt64) × (n < 2 ^ 64)
IsCell t (Text bytes) = (t ≡ plain.Text) × (length bytes < 2 ^ 64)
IsCell t Null = Unit {0}

-- the values of columns of the plain types
abbrev pub AreKeyValues : List PlainType → Row → Type 0
AreKeyValues [] [] = Unit {0}
AreKeyValues (t ∷ kinds) (v ∷ key) = IsCell t v × AreKeyValues kinds key
AreKeyValues kinds key = ⊥

-- the row has a key of columns of the types
abbrev pub HasKey : List ColumnType → List ℕ → Row → Type 0
HasKey types places row = AreKeyValues (plain_types_at types places) (key_at places row)

module _ {X : Type 0} (adds : Bool) (same : X → X → Bool) where
  -- a key that isn't there goes to the end, where keys are added
  abbrev pub with_key : List X → X → List X
  with_key keys x = cond adds (insert_key same keys x) keys

  -- the place of each key among those before it, each once in order of first appearance
  abbrev pub places_from : List X → List X → List ℕ
  places_from keys [] = []
  places_from keys (x ∷ xs) = position_or_len (same x) keys ∷ places_from (with_key keys x) xs

abbrev pub same_code : List ℕ → List ℕ → Bool
same_code = pointwise nat_eq

-- The place of a code among those seen, where it goes to the end if it is new and codes are added.
-- One that isn't there has the place behind them.
pub record FindsCode (adds : Bool) (code : List ℕ) (old new : List (List ℕ)) (place : ℕ)
    : Type 0 where
  pub is : place ≡ position_or_len (same_code code) old
  pub codes : new ≡ with_key adds same_code old code

-- The places of codes among those seen, where each new one goes to the end if codes are added.
pub record FindsCodes (adds : Bool) (codes old new : List (List ℕ)) (places : List ℕ) : Type 0 where
  pub is : places ≡ places_from adds same_code old codes
  pub seen : new ≡ fold (with_key adds same_code) old codes

-- without columns all rows have one code, which is there once a row came
abbrev pub whole_codes : Bool → List (List ℕ)
whole_codes some = cond some ([] ∷ []) []

abbrev pub number_codes : {S : Type 0} → IndexSet ℕ S → List (List ℕ)
number_codes numbers = map (λ n. n ∷ []) numbers.keys

abbrev pub byte_codes : {Z S : Type 0} → IndexSet (Vec ℕ Z) S → List (List ℕ)
byte_codes {Z = Z} codes = map (λ (code : Vec ℕ Z). byte_code code.items) codes.keys

-- the codes, with that of NULL at its place, where it is there
abbrev pub with_null : Option ℕ → List (List ℕ) → List (List ℕ)
with_null None codes = codes
with_null (Some place) codes = take place codes ++ [] ∷ drop place codes

-- NULL stands among the codes, or behind them
abbrev pub IsNullWithin : Option ℕ → List (List ℕ) → Type 0
IsNullWithin null codes = IfSome null (λ place. place ≤ length codes)

-- the place of NULL, which goes behind the codes of values if it is new and keys are added
pub record FindsNull (adds : Bool) (count : ℕ) (old new : Option ℕ) (place : ℕ) : Type 0 where
  pub was : (k : ℕ) → old ≡ Some k → (new ≡ Some k) × (place ≡ k)
  pub comes : old ≡ None → (new ≡ cond adds (Some count) None) × (place ≡ count)

-- the place of a code, where NULL may stand before it
abbrev pub beside_null : Option ℕ → ℕ → ℕ
beside_null None place = place
beside_null (Some null) place = cond (leb null place) (suc place) place

-- whether the value at a place is valid; without validity each is
abbrev pub is_valid_at : Option (List Bool) → ℕ → Bool
is_valid_at None i = true
is_valid_at (Some validity) i = slice_index_or validity i true

-- the codes of values, where those that aren't valid are NULL
abbrev pub valid_codes : Option (List Bool) → List (List ℕ) → List (List ℕ)
valid_codes None codes = codes
valid_codes (Some validity) codes = zip2 (λ valid code. cond valid code []) validity codes

-- the codes of the keys, in their order
abbrev pub codes_in : SeenKeys → List (List ℕ)
codes_in (seen.Whole some) = whole_codes some
codes_in (seen.Numbers numbers null) = with_null null (number_codes numbers)
codes_in (seen.Texts texts null) = with_null null (byte_codes texts)
codes_in (seen.Bytes codes) = byte_codes codes

-- keys of values of the plain types are seen so
abbrev pub IsSeenFor : List PlainType → SeenKeys → Type 0
IsSeenFor kinds (seen.Whole some) = length kinds ≡ 0
IsSeenFor kinds (seen.Numbers numbers null) =
    (length kinds ≡ 1) × (is_plain_text (first_plain_type kinds) ≡ false)
    × IsNullWithin null (number_codes numbers)
IsSeenFor kinds (seen.Texts texts null) =
    (length kinds ≡ 1) × (is_plain_text (first_plain_type kinds) ≡ true)
    × IsNullWithin null (byte_codes texts)
IsSeenFor kinds (seen.Bytes codes) = 1 < length kinds
