-- How a list's file is read, line by line.
use Rattle.std.specs.Prelude.{◌++◌, ◌+◌, ◌-◌, ◌∷◌, ◌≡◌}
use Rattle.csv_procs.specs.Prelude.{Bool, List, Option, Some, false, filter, length, true, ℕ}
use Rattle.query_model.specs.ListFiles.{bad_line, is_path}

-- the bad line and the paths of a text, by the number of its next line, the paths before that line,
-- and the lines from it on
pub record AreOf (bad : Option ℕ) (all : List (List ℕ)) (number : ℕ) (paths lines : List (List ℕ))
    : Type 0 where
  pub bad_line_is : bad_line number (32 - length paths) lines ≡ bad
  pub paths_are : paths ++ filter is_path lines ≡ all

-- a line is taken, and the paths are one more where it is a path; or it is the bad one
abbrev pub AreTaken : Bool → Option ℕ → List (List ℕ) → ℕ → (new lines : List (List ℕ)) → Type 0
AreTaken true bad all n new lines = AreOf bad all (n + 1) new lines
AreTaken false bad all n new lines = Some n ≡ bad

abbrev pub IsLineTaken : Bool → List ℕ → (old new : List (List ℕ)) → Type 0
IsLineTaken taken line old new =
    (bad : Option ℕ) (all : List (List ℕ)) (n : ℕ) (lines : List (List ℕ))
    → AreOf bad all n old (line ∷ lines) → AreTaken taken bad all n new lines
