-- The numbers of values, and how results are brought back into 64 bits.
use Rattle.std.specs.Prelude.{◌^◌}
use Rattle.query_model.specs.Prelude.{Bool, Int, Null, Text, UInt, Value, false, int_rem_euclid, int_wrap, pos, true, unsigned_abs, w64, ℤ}

-- the exact number of a value; a text and NULL count as 0
abbrev pub exact : Value → ℤ
exact (Int z) = z
exact (UInt n) = pos n
exact (Text bytes) = pos 0
exact Null = pos 0

abbrev pub is_uint : Value → Bool
is_uint (Int z) = false
is_uint (UInt n) = true
is_uint (Text bytes) = false
is_uint Null = false

-- the number of the type, UInt64 or else Int64, that equals z modulo 2 ^ 64
unfoldable pub wrapped : Bool → ℤ → Value
wrapped true z = UInt (unsigned_abs (int_rem_euclid z (pos (2 ^ 64))))
wrapped false z = Int (int_wrap w64 z)
