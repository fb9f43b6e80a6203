-- One turn of the reading of a list.
use Rattle.sql_text.proofs.Imports.{◌≡◌, ℕ, suc, ◌<◌, List, [], ◌∷◌, ◌++◌, Some, None, option_map, ◌∙◌, refl, append_assoc, Token, ParseError, ParseFails, Parse, behind, list_at, Separator, arith}
use Rattle.sql_text.proofs.Turns.{some_turns}

abbrev with_front : {X : Type 0} → List X → Parse (List X) → Parse (List X)
with_front front read = option_map (λ xs. (front ++ xs.0, xs.1)) read

-- The reading is the one that goes on behind the elements before, at ts, with so many turns.
pub record IsAt {X : Type 0} (read : List Token → Parse X)
    (s : Separator) (reading : Parse (List X)) (front : List X) (n : ℕ)
    (ts : List Token) : Type 0 where
  pub same : reading ≡ with_front front (list_at read s n ts)

module _ {X : Type 0} {read : List Token → Parse X} {s : Separator}
    {reading : Parse (List X)} {front : List X} {n : ℕ} {ts : List Token}
    (at : IsAt read s reading front n ts) where
  pub at_next : {m : ℕ} → n ≡ suc m → (x : X) (mid after : List Token) → read ts ≡ Some (x, mid)
      → behind s mid ≡ Some after → IsAt read s reading (front ++ x ∷ []) m after
  unfolding list_at
  at_next {m = m} is x mid after found more = grind (arith, append_assoc)

  pub at_end : 0 < n → (x : X) (rest : List Token) → read ts ≡ Some (x, rest)
      → behind s rest ≡ None → reading ≡ Some (front ++ x ∷ [], rest)
  unfolding list_at
  at_end h x rest found none = at.same ∙ rw ((some_turns n h).1, found, none) refl

  pub at_fault : 0 < n → (e : ParseError) → ParseFails e (read ts) → ParseFails e reading
  unfolding list_at
  at_fault h e fails = grind arith

  pub no_turns : n ≡ 0 → reading ≡ None
  unfolding list_at
  no_turns is = at.same ∙ rw is refl
