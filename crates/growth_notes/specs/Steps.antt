-- What each step of a seat tells.
use Rattle.std.specs.Prelude.{◌≡◌, ℕ, ◌+◌, ◌++◌, [], ◌∷◌}
use mathlib.Core.Option.{some}
use Rattle.atomic_table.specs.Table.{Me, Step}
use Rattle.growth_notes.specs.Rules.{AreFirst}
use Rattle.growth_notes.specs.declared.rule.NoteView.{NoteView}
use Rattle.growth_notes.specs.declared.rule.Role.TheVariants.{Root, Writer, Reader}

module _ {G : Type 0} where
  -- what the first seat knows
  abbrev pub first_note : NoteView G
  first_note = record { reserve = 0; role = Root; growths = []; gathered = [] }

  abbrev pub appended : G → NoteView G → NoteView G
  appended g v = record {
    reserve = v.reserve;
    role = v.role;
    growths = v.growths ++ g ∷ [];
    gathered = v.gathered;
  }

  -- the root without its own reserve, and the writer of that
  abbrev pub as_root_of_next : NoteView G → NoteView G
  as_root_of_next v =
      record { reserve = v.reserve + 1; role = v.role; growths = v.growths; gathered = [] }

  abbrev pub copied : NoteView G → NoteView G
  copied v = record { reserve = v.reserve; role = Writer; growths = v.growths; gathered = [] }

  -- what a reader gets of a seat
  abbrev pub as_copy : NoteView G → NoteView G
  as_copy v = record { reserve = v.reserve; role = Reader; growths = v.growths; gathered = [] }

  -- a seat that took another in, and what that one is left with
  abbrev pub joining : NoteView G → NoteView G → NoteView G
  joining v w = record {
    reserve = v.reserve;
    role = v.role;
    growths = v.growths;
    gathered = w.growths;
  }

  abbrev pub spent : NoteView G
  spent = record { reserve = 0; role = Reader; growths = []; gathered = [] }

  -- the growth that the step names is the last one now
  abbrev pub Appends : Step G → Me G (NoteView G) → ℕ → Me G (NoteView G) → Type 0
  Appends st m found m' = (g : G) → st.said ≡ some g → m' ≡ (appended g m.0, m.1)

  -- those that the copy had seen are the first of those that the seat has seen
  pub record Compares (st : Step G) (m : Me G (NoteView G)) (found : ℕ)
      (m' : Me G (NoteView G)) : Type 0 where
    pub same : m' ≡ m
    pub first : AreFirst m.0.gathered m.0.growths
