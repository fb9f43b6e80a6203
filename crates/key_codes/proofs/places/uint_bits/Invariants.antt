use Rattle.key_codes.proofs.Imports.{◌≡◌, ◌<◌, ℕ, [], ◌∷◌, get_or, map, take, UInt, IsCell, value_code}
use Rattle.chunk_data.specs.declared.typed_value.PlainType.TheVariants as plain
use Rattle.key_codes.proofs.places.uint_bits.Given as goal

abbrev pub invariant-loop-i : goal.invariant-loop-i
invariant-loop-i l =
    (map (λ n. n ∷ []) l.bits.items ≡ map value_code (map UInt (take l.i l.numbers)))
    × ((k : ℕ) → k < l.i → IsCell plain.UInt64 (UInt (get_or l.numbers k 0)))
