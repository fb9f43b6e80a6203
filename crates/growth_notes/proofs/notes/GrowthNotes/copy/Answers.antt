use Rattle.growth_notes.proofs.Imports.{arith}
use Rattle.growth_notes.proofs.NotesRule.{copy-allowed}
use Rattle.growth_notes.proofs.notes.GrowthNotes.copy.Goals as goal

pub split_seat-seat-requires : goal.split_seat-seat-requires
split_seat-seat-requires g c = let w = c.args.self.now.sized in
    (c.requires, omega arith, copy-allowed _ _ _)
