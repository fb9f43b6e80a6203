use Rattle.port_word.proofs.Imports.{true}
use Rattle.port_word.proofs.Fitting.{fits-input, input-in-range, room-input, wanted}
use Rattle.port_word.proofs.port_view.PortView.set_needed.Goals as goal

pub note_want-requires : goal.note_want-requires
note_want-requires c = room-input _ c.args.i _ _ _ c.self.invariant (wanted _ c.args.i _ true _
    c.self.invariant (input-in-range _ _ c.args.i c.self.view_is c.requires)
    c.index_mut-port.ensures.value)

pub invariant_of-self-2 : goal.invariant_of-self-2
invariant_of-self-2 c = fits-input _ c.args.i _ _ _ _ _ c.self.invariant (wanted _ c.args.i
    c.index_mut-port.result.now true _ c.self.invariant
    (input-in-range _ _ c.args.i c.self.view_is c.requires) c.index_mut-port.ensures.value)
    c.note_want.ensures.items c.note_want.ensures.room
