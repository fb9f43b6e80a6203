use Rattle.port_word.proofs.Imports.{with_input}
use Rattle.port_word.proofs.Fitting.{shut, fits-input, input-in-range, room-behind, room-input}
use Rattle.port_word.proofs.port_view.PortView.close.Goals as goal

pub note-requires : goal.note-requires
unfolding with_input
note-requires c = room-behind _ _ _ (room-input _ c.args.i _ _ _ c.self.invariant
    (shut _ c.args.i _ _ c.self.invariant (input-in-range _ _ c.args.i c.self.view_is
    c.requires) c.index_mut-port.ensures.value c.if-port.false))

pub invariant_of-self-2 : goal.invariant_of-self-2
unfolding with_input
invariant_of-self-2 c = fits-input _ c.args.i _ _ _ _ _ c.self.invariant (shut _ c.args.i
    c.index_mut-port.result.now _ c.self.invariant
    (input-in-range _ _ c.args.i c.self.view_is c.requires) c.index_mut-port.ensures.value
    c.if-port.false) c.note.ensures.items c.note.ensures.room
