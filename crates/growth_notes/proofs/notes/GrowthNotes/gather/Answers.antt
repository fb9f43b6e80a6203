use Rattle.growth_notes.proofs.Imports.{Me, NoteView, ap, arith, sym, ◌∙◌}
use Rattle.growth_notes.proofs.NotesRule.{compare-allowed, gather-allowed}
use Rattle.growth_notes.proofs.notes.GrowthNotes.gather.Goals as goal

pub join_seat-requires : goal.join_seat-requires
join_seat-requires g c = let w = c.args.self.now.sized in (
  c.requires.note,
  c.requires.copy,
  c.args.copy.bare,
  omega arith,
  gather-allowed _ _ _ _ _ (c.args.copy.own ∙ c.requires.same ∙ sym c.args.note.now.own),
)

pub load-requires : goal.load-requires
load-requires g c = let w = c.args.self.now.sized in (
  c.join_seat.ensures.0 ∙ c.requires.note,
  omega arith,
  compare-allowed _ _ _ _ _
      (ap (λ (m : Me g.row.G.Denot (NoteView g.row.G.Denot)). m.0.role) c.join_seat.ensures.2
      ∙ c.args.note.now.writer),
)
