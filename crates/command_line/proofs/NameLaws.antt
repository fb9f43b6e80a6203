-- Whether a thing of a list has a name.
use Rattle.command_line.proofs.Imports.{Bool, List, [], ap, list_any, map, refl, ℕ, ◌||◌, ◌∷◌, ◌≡◌}

pub any_named : {X : Type 0} (name : X → List ℕ) (q : List ℕ → Bool) (xs : List X)
    → list_any (λ x. q (name x)) xs ≡ list_any q (map name xs)
any_named name q [] = refl
any_named name q (x ∷ xs) = ap (λ a. q (name x) || a) (any_named name q xs)
