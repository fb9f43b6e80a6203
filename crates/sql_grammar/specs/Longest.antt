-- Words, numbers and signs are the longest at the front of the bytes.
use Rattle.std.specs.Prelude.{◌≡◌, ℕ, ◌-◌, ◌<◌, ◌≤◌, ◌==◌, ◌&&◌, Bool, true, false, not, List, [], ◌∷◌, length, take, Option, Some, None, is_some}
use Rattle.std.specs.List.{list_all}
use Rattle.std.specs.Char.{is_ascii_digit}
use Rattle.query_model.specs.Fields.{numeral_value}
use Rattle.sql_grammar.specs.declared.Sign.{Sign}
use Rattle.sql_grammar.specs.declared.Token.{Token}
use Rattle.sql_grammar.specs.declared.Token.TheVariants as token
use Rattle.sql_grammar.specs.Strings.{IsStringAt}
use Rattle.sql_grammar.specs.Tokens.{begins_with_letter, double_sign, is_word_byte, keyword_of, single_sign, token_front}

-- the n bytes at the front are such a text, and no more bytes are
pub record IsLongest (test : List ℕ → Bool) (bytes : List ℕ) (n : ℕ) : Type 0 where
  pub within : n ≤ length bytes
  pub is_one : test (take n bytes) ≡ true
  pub longest : (m : ℕ) → n < m → m ≤ length bytes → test (take m bytes) ≡ false

abbrev pub is_word_text : List ℕ → Bool
is_word_text bytes = begins_with_letter bytes && list_all is_word_byte bytes

abbrev pub is_number_text : List ℕ → Bool
is_number_text bytes = not (length bytes == 0) && list_all is_ascii_digit bytes

-- the sign that the bytes are
abbrev pub sign_of_text : List ℕ → Option Sign
sign_of_text (b ∷ []) = single_sign b
sign_of_text (b ∷ c ∷ []) = double_sign b c
sign_of_text _ = None

abbrev pub is_sign_text : List ℕ → Bool
is_sign_text bytes = is_some (sign_of_text bytes)

-- the n bytes at the front are the token's; a string's begin behind its first quote
abbrev pub IsTokenAt : Token → List ℕ → ℕ → Type 0
IsTokenAt (token.Name w) bytes n = IsLongest is_word_text bytes n × (take n bytes ≡ w)
IsTokenAt (token.Keyword k) bytes n =
    IsLongest is_word_text bytes n × (keyword_of (take n bytes) ≡ Some k)
IsTokenAt (token.Number m) bytes n =
    IsLongest is_number_text bytes n × (numeral_value (take n bytes) ≡ m)
IsTokenAt token.LargeNumber bytes n = IsLongest is_number_text bytes n
IsTokenAt (token.Text t) [] n = ⊥
IsTokenAt (token.Text t) (b ∷ bytes) n = IsStringAt bytes t (n - 1)
IsTokenAt (token.Sign s) bytes n =
    IsLongest is_sign_text bytes n × (sign_of_text (take n bytes) ≡ Some s)

-- each token that is read at the front is there, the longest of its kind
abbrev pub TokensAreLongest : Type 0
TokensAreLongest = (bytes : List ℕ) (t : Token) (n : ℕ) → token_front bytes ≡ Some (t, n)
    → IsTokenAt t bytes n
