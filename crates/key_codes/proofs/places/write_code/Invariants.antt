use Rattle.key_codes.proofs.Imports.{◌≡◌, flat_map, is_null, list_any, take, HasKey, key_at, row_at, value_bytes}
use Rattle.key_codes.proofs.places.write_code.Given as goal

abbrev pub invariant-loop-place : goal.invariant-loop-place
invariant-loop-place l =
    (l.code.items
    ≡ flat_map value_bytes (key_at (take l.place-index l.places) (row_at l.chunk.rows l.i)))
    × (l.some_null ≡ list_any is_null (key_at (take l.place-index l.places)
    (row_at l.chunk.rows l.i)))
    × HasKey l.chunk.types (take l.place-index l.places) (row_at l.chunk.rows l.i)
