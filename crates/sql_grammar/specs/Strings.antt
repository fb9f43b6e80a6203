-- How a string is written behind its first quote, with its last one: each byte stands for itself,
-- but a quote is written as two quotes or behind a backslash, and a backslash behind a backslash.
use Rattle.std.specs.Prelude.{◌≡◌, ◌≢◌, ℕ, ◌≤◌, ◌==◌, Bool, false, List, [], ◌∷◌, length, take, drop, Some}
use Rattle.sql_grammar.specs.declared.TextPlace.TheVariants as place
use Rattle.sql_grammar.specs.Tokens.{text_at}

-- the content, and the bytes that it is written in
pub data IsQuoted : List ℕ → List ℕ → Type 0 where
  closed : IsQuoted [] (39 ∷ [])
  another_byte : {b : ℕ} {content bytes : List ℕ} → b ≢ 39 → b ≢ 92
      → IsQuoted content bytes → IsQuoted (b ∷ content) (b ∷ bytes)
  two_quotes : {content bytes : List ℕ}
      → IsQuoted content bytes → IsQuoted (39 ∷ content) (39 ∷ 39 ∷ bytes)
  quote_behind_backslash : {content bytes : List ℕ}
      → IsQuoted content bytes → IsQuoted (39 ∷ content) (92 ∷ 39 ∷ bytes)
  two_backslashes : {content bytes : List ℕ}
      → IsQuoted content bytes → IsQuoted (92 ∷ content) (92 ∷ 92 ∷ bytes)

abbrev pub begins_with : ℕ → List ℕ → Bool
begins_with c [] = false
begins_with c (b ∷ bs) = b == c

-- The n bytes at the front are a string's, and the longest that are: no quote follows, which would
-- go on with it.
pub record IsStringAt (bytes content : List ℕ) (n : ℕ) : Type 0 where
  pub within : n ≤ length bytes
  pub written : IsQuoted content (take n bytes)
  pub longest : begins_with 39 (drop n bytes) ≡ false

-- the string that is read is the one that is written
abbrev pub StringsAreRead : Type 0
StringsAreRead = (bytes content : List ℕ) (n : ℕ)
    → IsStringAt bytes content n → text_at place.Middle bytes ≡ Some (content, n)

abbrev pub StringsAreWritten : Type 0
StringsAreWritten = (bytes content : List ℕ) (n : ℕ)
    → text_at place.Middle bytes ≡ Some (content, n) → IsStringAt bytes content n
