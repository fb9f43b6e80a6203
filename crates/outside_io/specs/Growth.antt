-- How the bytes written to a sink grow. They are told or not: of what is not told nothing is said.
use Rattle.std.specs.Prelude.{◌≡◌, ℕ, ◌≤◌, List, [], ◌++◌, length, take, Option, Some, None}

-- the told bytes with more bytes at the end
abbrev pub grown : Option (List ℕ) → List ℕ → Option (List ℕ)
grown None bytes = None
grown (Some told) bytes = Some (told ++ bytes)

-- exactly these bytes came at the end
abbrev pub GrewBy : Option (List ℕ) → Option (List ℕ) → List ℕ → Type 0
GrewBy before after bytes = after ≡ grown before bytes

-- the first of these bytes came at the end
abbrev pub GrewByPrefix : Option (List ℕ) → Option (List ℕ) → List ℕ → Type 0
GrewByPrefix before after bytes = (n : ℕ) × (n ≤ length bytes) × GrewBy before after (take n bytes)

-- no byte came
abbrev pub Untouched : Option (List ℕ) → Option (List ℕ) → Type 0
Untouched before after = GrewBy before after []
