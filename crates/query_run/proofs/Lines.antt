-- A line that is written in pieces.
use Rattle.query_run.proofs.Imports.{arith, Err, GrewBy, GrewByPrefix, GrewByPrefix-after, GrewByPrefix-append, LinePiece, List, Option, Writes, [], append-nil, append_assoc, drop, flat_map, flat_map-append, get_or, length, piece_bytes, take, take-append-drop, take_more, ℕ, ◌++◌, ◌+◌, ◌<◌, ◌∷◌, ◌≡◌}

-- the bytes of the pieces before a place, of the piece there, and of those behind it
split-bytes : (ps : List LinePiece) (i : ℕ) (d : LinePiece) → i < length ps
    → (flat_map piece_bytes (take i ps) ++ piece_bytes (get_or ps i d)) ++ flat_map piece_bytes
    (drop (i + 1) ps) ≡ flat_map piece_bytes ps
split-bytes ps i d lt = grind (
  arith,
  append-nil (piece_bytes (get_or ps i d)),
  flat_map-append piece_bytes (take i ps) (get_or ps i d ∷ []),
  take_more ps i d lt,
  flat_map-append piece_bytes (take (i + 1) ps) (drop (i + 1) ps),
  take-append-drop (i + 1) ps,
)

-- a piece that was cut is the end of what was written
pub writes-cut : {A E : Type 0} (ps : List LinePiece) (i : ℕ) (d : LinePiece)
    (before between after : Option (List ℕ)) (failed : Type 0) (e : E)
    → i < length ps → GrewBy before between (flat_map piece_bytes (take i ps))
    → GrewByPrefix between after (piece_bytes (get_or ps i d)) → failed
    → Writes {A = A} (flat_map piece_bytes ps) before after failed (Err e)
writes-cut ps i d before between after failed e lt front cut why =
    let first = flat_map piece_bytes (take i ps) in
    let piece = piece_bytes (get_or ps i d) in
    let there = GrewByPrefix-after before between after first piece front cut in
    grind (
      arith,
      split-bytes ps i d lt,
      GrewByPrefix-append before after (first ++ piece)
          (flat_map piece_bytes (drop (i + 1) ps)) there,
      there,
    )

-- a word and its number, and what stands behind them
pub words-last : (front word number last end : List ℕ)
    → front ++ (word ++ number) ++ last ++ [] ++ end ≡ front ++ word ++ number ++ last ++ end
words-last front word number last end = grind (arith, append-nil, append_assoc)
