use Rattle.csv_rows.proofs.Imports.{arith, ◌≡◌, ℕ, ◌==◌, ◌||◌, false, List, [], ◌∷◌, ◌++◌, refl, ◌∙◌, doubled, list_any}
use Rattle.std.proofs.Common.{flat_map}
use Rattle.csv_rows.proofs.text.append_doubled.Goals as goal

-- a text without a quote stays as it is
doubled-plain : (bytes : List ℕ) → list_any (λ b. b == 34) bytes ≡ false
    → flat_map doubled bytes ≡ bytes
doubled-plain [] h = refl
doubled-plain (b ∷ bytes) h = grind (arith, doubled-plain bytes)

pub returns-then-not-contains : goal.returns-then-not-contains
returns-then-not-contains c = search (arith, doubled-plain)
