use Rattle.key_codes.proofs.Imports.{◌≡◌, ◌<◌, ℕ, [], ◌∷◌, get_or, map, pos, take, Int, IsCell, value_code}
use Rattle.chunk_data.specs.declared.typed_value.PlainType.TheVariants as plain
use Rattle.key_codes.proofs.places.int_bits.Given as goal

abbrev pub invariant-loop-i : goal.invariant-loop-i
invariant-loop-i l =
    (map (λ n. n ∷ []) l.bits.items ≡ map value_code (map Int (take l.i l.numbers)))
    × ((k : ℕ) → k < l.i → IsCell plain.Int64 (Int (get_or l.numbers k (pos 0))))
