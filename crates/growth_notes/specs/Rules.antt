-- The rule of notes: the growths of a reserve are one list, of which each seat has seen the first.
use Rattle.std.specs.Prelude.{◌≡◌, ◌==◌, ℕ, Bool, true, false, ◌+◌, ◌++◌, ◌<◌, ◌%◌, ◌^◌, nat_le, List, length, slice_index}
use mathlib.Core.Option.{some}
use lib.ListN.{get_elem?}
use Rattle.atomic_table.specs.Table.{State}
use Rattle.growth_notes.specs.declared.rule.NoteView.{NoteView}
use Rattle.growth_notes.specs.declared.rule.Role.{Role}
use Rattle.growth_notes.specs.declared.rule.Role.TheVariants.{Root, Writer, Reader}

-- whether who has the role, at its own reserve, may append to the growths of the reserve r
abbrev pub may_append : Role → (own r : ℕ) → Bool
may_append Root own r = nat_le own r
may_append Writer own r = own == r
may_append Reader own r = false

module _ {G : Type 0} where
  -- the first list is the second's beginning
  pub record AreFirst (xs ys : List G) : Type 0 where
    pub later : List G
    pub all : ys ≡ xs ++ later

  abbrev pub writes : NoteView G → ℕ → Bool
  writes v r = may_append v.role v.reserve r

  -- By the growths of each reserve, the seat has seen the first ones of its own, and so had the
  -- copy that it gathered last. One that may append has seen all.
  pub record HasSeen (growths : ℕ → List G) (v : NoteView G) : Type 0 where
    pub seen : AreFirst v.growths (growths v.reserve)
    pub gathered : AreFirst v.gathered (growths v.reserve)
    pub all : (r : ℕ) → writes v r ≡ true → v.growths ≡ growths r

  -- each of so many reserves has growths, which one seat at most may append to
  pub record AreNoted (reserves : ℕ) (s : State G (NoteView G)) : Type 0 where
    pub wide : length s.words ≡ reserves + 1
    pub growths : ℕ → List G
    pub counts : (r : ℕ) → r < reserves
        → slice_index s.words (r + 1) ≡ length (growths r) % 2 ^ 64
    pub seats : (k : ℕ) (v : NoteView G) → get_elem? s.views k ≡ some v → HasSeen growths v
    pub once : (j k r : ℕ) (v w : NoteView G) → get_elem? s.views j ≡ some v
        → get_elem? s.views k ≡ some w → writes v r ≡ true → writes w r ≡ true → j ≡ k
