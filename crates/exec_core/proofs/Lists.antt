-- What the loops of lists and sights make.
use Rattle.exec_core.proofs.Imports.{Flags, List, Sight, [], ap, arith, drop, get_or, length, seeing, set, suc, take, zero, ℕ, ◌++◌, ◌<◌, ◌∷◌, ◌≡◌}

-- the sight at a place that has the edge
pub seeing-hit : (e : ℕ) (f : Flags) (l : List Sight) (i : ℕ) (d : Sight) → i < length l → (get_or l
    i d).edge ≡ e → set l i (record { edge = e; flags = f }) ≡ take i l ++ seeing e f (drop i l)
seeing-hit e f [] i d h q = absurd (omega arith)
seeing-hit e f (g ∷ gs) zero d h q = grind arith
seeing-hit e f (g ∷ gs) (suc i) d h q = ap (λ z. g ∷ z) (seeing-hit e f gs i d (omega arith) q)
