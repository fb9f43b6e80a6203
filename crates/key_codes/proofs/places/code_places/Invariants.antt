use Rattle.key_codes.proofs.Imports.{◌<◌, ℕ, map, HasKey, byte_codes, row_at, row_code}
use Rattle.key_codes.proofs.KeyLaws.{FindsSome}
use Rattle.key_codes.proofs.places.code_places.Given as goal

abbrev pub invariant-loop-i : goal.invariant-loop-i
invariant-loop-i l =
    FindsSome l.adds (map (row_code l.places) l.chunk.rows) (byte_codes l.initial.seen) l.i
    (byte_codes l.seen) l.found.items
    × ((k : ℕ) → k < l.i → HasKey l.chunk.types l.places (row_at l.chunk.rows k))
