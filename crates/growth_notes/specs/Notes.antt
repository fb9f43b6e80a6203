-- What clauses say of the notes of growths.
use Rattle.std.specs.Prelude.{◌≡◌, ℕ, List}
use Rattle.growth_notes.specs.declared.notes.GrowthNote.{GrowthNote}
use Rattle.growth_notes.specs.declared.notes.GrowthNotes.{GrowthNotes}
use Rattle.growth_notes.specs.declared.notes.NoteCopy.{NoteCopy}
use Rattle.growth_notes.specs.declared.notes.NotesRoot.{NotesRoot}

module _ {G : Type 0} where
  -- how many reserves have notes
  abbrev pub reserve_count : GrowthNotes G → ℕ
  reserve_count notes = notes.reserves

  -- the growths of the reserve, in order
  abbrev pub noted : GrowthNote G → List G
  noted note = note.seat.me.0.growths

  -- those that the copy has seen
  abbrev pub noted_in : NoteCopy G → List G
  noted_in copy = copy.seat.me.0.growths

  abbrev pub IsRootOf : GrowthNotes G → NotesRoot G → Type 0
  IsRootOf notes root = root.seat.table_id ≡ notes.table.shared.table_id

  abbrev pub IsNoteOf : GrowthNotes G → GrowthNote G → Type 0
  IsNoteOf notes note = note.seat.table_id ≡ notes.table.shared.table_id

  abbrev pub IsCopyOf : GrowthNotes G → NoteCopy G → Type 0
  IsCopyOf notes copy = copy.seat.table_id ≡ notes.table.shared.table_id
