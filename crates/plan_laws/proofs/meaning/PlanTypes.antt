-- The types that a kind makes of chunks of one type.
use Rattle.std.proofs.lemmas.Grind.{common_steps}
use Rattle.plan_laws.proofs.Imports.{arith, List, replicate, ℕ, ◌≡◌, AllByRecursion, Spec, Types, TypesFit, MakesType, IsAmong, FitsInput, Some, suc, zero}

-- what a kind makes of chunks of these types is of that type
pub record OneType (s : Spec) (ins : List Types) (made : Types) : Type 0 where
  pub fit : TypesFit s 0 ins
  pub makes : (t : Types) (us : List Types) → AllByRecursion (IsAmong ins) us → MakesType s us t
      → t ≡ made

-- ---- kinds

-- kinds that take chunks of all types and pass them on
pub passes-type : (s : Spec) (m : ℕ) (u : Types) → TypesFit s 0 (replicate m u)
    → ((us : List Types) (t : Types) → MakesType s us t → IsAmong us t)
    → OneType s (replicate m u) u
passes-type s m u fit makes = grind (arith, common_steps)

-- each input fits types that fit every input
pub each-fits : (s : Spec) (i m : ℕ) (u : Types) → ((i : ℕ) → FitsInput (Some s) i u)
    → TypesFit s i (replicate m u)
each-fits s i zero u h = tt
each-fits s i (suc m) u h = (h i, each-fits s (suc i) m u h)

-- kinds that make chunks of one type of chunks that fit every input
pub makes-one : (s : Spec) (m : ℕ) (u : Types) {made : Types} → ((i : ℕ) → FitsInput (Some s) i u)
    → ((us : List Types) (t : Types) → MakesType s us t → t ≡ made)
    → OneType s (replicate m u) made
makes-one s m u fits makes = grind (arith, each-fits)
