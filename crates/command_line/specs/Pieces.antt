-- Text that separators part.
use Rattle.std.specs.Prelude.{ℕ, ◌==◌, List, [], ◌∷◌, Option, Some, None}
use Rattle.std.specs.List.{slice_split}

module _ {X : Type 0} where
  abbrev pub both_read : Option X → Option (List X) → Option (List X)
  both_read None more = None
  both_read (Some x) None = None
  both_read (Some x) (Some more) = Some (x ∷ more)

  -- what each piece means, where each means something
  unfoldable pub all_read : (List ℕ → Option X) → List (List ℕ) → Option (List X)
  all_read read [] = Some []
  all_read read (piece ∷ pieces) = both_read (read piece) (all_read read pieces)

  -- what the pieces between the separators mean
  abbrev pub pieces_of : (List ℕ → Option X) → ℕ → List ℕ → Option (List X)
  pieces_of read separator text = all_read read (slice_split (λ b. b == separator) text)
