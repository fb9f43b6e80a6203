use Rattle.key_codes.proofs.Imports.{key_at, map, null_mark, row_at, take, ◌++◌, ◌≡◌}
use Rattle.key_codes.proofs.places.push_marks.Given as goal

abbrev pub invariant-loop-place : goal.invariant-loop-place
invariant-loop-place l = l.code.items ≡ l.initial.code.items
    ++ map null_mark (key_at (take l.place-index l.places) (row_at l.chunk.rows l.i))
