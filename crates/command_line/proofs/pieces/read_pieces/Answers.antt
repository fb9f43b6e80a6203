use Rattle.command_line.proofs.Imports.{Some, ap, arith, pieces_of, sym, ◌∙◌}
use Rattle.command_line.proofs.PieceLaws.{followed_by, followed_by_all, piece_refused, piece_last, piece_next}
use Rattle.command_line.proofs.pieces.read_pieces.Goals as goal

pub loop-pieces-init : goal.loop-pieces-init
loop-pieces-init g c =
    let all = pieces_of g.T.Piece.meaning c.args.separator c.args.text.now in
    followed_by_all all ∙ ap (λ xs. followed_by xs all) (sym c.new-pieces.ensures.items)

pub returns-in-None : goal.returns-in-None
returns-in-None g c =
    sym (piece_refused g.T.Piece.meaning c.args.separator c.args.text.now c.loop-pieces.rest.now
    c.text_before.result.now c.loop-pieces.pieces.items c.in_ok-read.field-0
    c.loop-pieces.invariant c.in_ok-read.ensures c.text_before.ensures c.in-None.is)

pub returns-then-place_of-rest : goal.returns-then-place_of-rest
returns-then-place_of-rest g c =
    ap Some c.from_vec.ensures
    ∙ sym (piece_last g.T.Piece.meaning c.args.separator c.args.text.now c.loop-pieces.rest.now
    c.text_before.result.now
    c.loop-pieces.pieces.items c.push.new.self.items c.in_ok-read.field-0 c.in-Some.piece
    c.loop-pieces.invariant c.in_ok-read.ensures c.text_before.ensures c.in-Some.is
    (sym c.place_of.ensures.place ∙ c.if-place_of-rest.true)
    c.in_ok-push-in-Some.ensures.items)

pub loop-pieces-preserved : goal.loop-pieces-preserved
loop-pieces-preserved g c =
    piece_next g.T.Piece.meaning c.args.separator c.args.text.now c.loop-pieces.rest.now
    c.text_before.result.now c.text_after-rest.result.now
    c.loop-pieces.pieces.items c.push.new.self.items c.in_ok-read.field-0 c.in-Some.piece
    c.loop-pieces.invariant c.in_ok-read.ensures c.text_before.ensures c.in-Some.is
    (omega (arith, c.place_of.ensures.place, c.place_of.ensures.within, c.if-place_of-rest.false))
    c.in_ok-push-in-Some.ensures.items c.text_after-rest.ensures
