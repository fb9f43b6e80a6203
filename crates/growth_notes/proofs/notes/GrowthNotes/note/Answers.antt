use Rattle.growth_notes.proofs.Imports.{ap, arith}
use Rattle.growth_notes.proofs.NotesRule.{hand-out-allowed}
use Rattle.growth_notes.proofs.notes.GrowthNotes.note.Goals as goal

pub split_seat-seat-requires : goal.split_seat-seat-requires
split_seat-seat-requires g c = let w = c.args.self.now.sized in (
  c.requires.root,
  omega arith,
  hand-out-allowed _ _ _ _ (ap (λ m. m.0) c.args.root.now.holds),
)
