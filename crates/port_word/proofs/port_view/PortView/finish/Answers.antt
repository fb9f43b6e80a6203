use Rattle.port_word.proofs.Imports.{with_output}
use Rattle.port_word.proofs.Fitting.{finished, fits-output, output-in-range, room-behind, room-output}
use Rattle.port_word.proofs.port_view.PortView.finish.Goals as goal

pub note-requires : goal.note-requires
unfolding with_output
note-requires c = room-behind _ _ _ (room-output _ c.args.o _ _ _ c.self.invariant (finished _
    c.args.o _ _ c.self.invariant (output-in-range _ _ c.args.o c.self.view_is c.requires)
    c.index_mut-port.ensures.value c.if-port.false))

pub invariant_of-self-2 : goal.invariant_of-self-2
unfolding with_output
invariant_of-self-2 c = fits-output _ c.args.o _ _ _ _ _ c.self.invariant (finished _ c.args.o
    c.index_mut-port.result.now _ c.self.invariant
    (output-in-range _ _ c.args.o c.self.view_is c.requires) c.index_mut-port.ensures.value
    c.if-port.false) c.note.ensures.items c.note.ensures.room
