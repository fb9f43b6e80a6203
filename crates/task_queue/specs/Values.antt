-- Values in places and in slots.
use Rattle.std.specs.Prelude.{◌≡◌, ℕ, ◌<◌, List, [], ◌∷◌, Option, Some, None}
use mathlib.Core.Option.{some}
use lib.ListN.{get_elem?}

module _ {V : Type 0} where
  -- each value fits the place at which it stands
  abbrev pub AllFit : (V → ℕ → Type 0) → List V → Type 0
  AllFit fits values = (n : ℕ) (v : V) → get_elem? values n ≡ some v → fits v n

  -- the values that stand in slots
  abbrev pub values_of : List (Option V) → List V
  values_of [] = []
  values_of (None ∷ xs) = values_of xs
  values_of (Some v ∷ xs) = v ∷ values_of xs

  -- each of the first slots has a value that fits its place
  abbrev pub SlotsFit : (V → ℕ → Type 0) → ℕ → List (Option V) → Type 0
  SlotsFit fits count slots =
      (n : ℕ) → n < count → (v : V) × (get_elem? slots n ≡ some (Some v)) × fits v n
