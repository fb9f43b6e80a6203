use Rattle.command_line.proofs.Imports.{length, pieces_of, ◌≡◌}
use Rattle.command_line.proofs.PieceLaws.{followed_by}
use Rattle.command_line.proofs.pieces.read_pieces.Given as goal

abbrev pub invariant-loop-pieces : goal.invariant-loop-pieces
invariant-loop-pieces g l =
    pieces_of g.T.Piece.meaning l.separator l.text ≡ followed_by l.pieces.items
    (pieces_of g.T.Piece.meaning l.separator l.rest)

abbrev pub decreases-loop-pieces : goal.decreases-loop-pieces
decreases-loop-pieces g l = length l.rest
