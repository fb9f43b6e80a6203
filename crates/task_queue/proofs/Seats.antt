-- What the slots of a seat are after its steps.
use Rattle.task_queue.proofs.Imports.{Holding, List, Me, None, Option, [], ap, map, map-append, refl, rest, subst, sym, turned, ℕ, ◌++◌, ◌∙◌, ◌∷◌, ◌≡◌}

module _ {V : Type 0} where
  -- empty slots of numbers turn as the numbers rotate
  pub slots-rotated : (c : List (ℕ × Option V)) (all ns now : List ℕ) (n : ℕ)
      → c ≡ map (λ n. (n, None)) all → all ≡ n ∷ ns → now ≡ ns ++ n ∷ []
      → turned c ≡ map (λ n. (n, None)) now
  slots-rotated c all ns now n is front last = ap turned (is ∙ ap (map (λ n. (n, None))) front)
      ∙ (sym (map-append (λ n. (n, None)) ns (n ∷ [])) ∙ ap (map (λ n. (n, None))) (sym last))

  -- the slots of a seat whose first is known
  pub slots-first : (m : Me (Option V) Holding) (v : Holding) (y : ℕ × Option V)
      (ss : List (ℕ × Option V))
      → m ≡ (v, y ∷ ss) → m.1 ≡ y ∷ rest m.1
  slots-first m v y ss is =
      subst (λ (z : Me (Option V) Holding). z.1 ≡ y ∷ rest z.1) (sym is) refl

  -- two ways to name the value in the first slot
  pub first-same : (c r r' : List (ℕ × Option V)) (n : ℕ) (a b : Option V) → c ≡ (n, a) ∷ r
      → c ≡ (n, b) ∷ r' → a ≡ b
  first-same c r r' n a b p q = sym (ap first_value p) ∙ ap first_value q
    where
      first_value : List (ℕ × Option V) → Option V
      first_value [] = None
      first_value (y ∷ ys) = y.1
