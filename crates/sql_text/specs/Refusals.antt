-- Why a text is refused.
use Rattle.std.specs.Prelude.{◌≡◌, ◌⊎◌, ℕ, Bool, true, false, nat_lt, if◌then◌else◌, List, length, count_by, Option, Some, None}
use Rattle.std.specs.List.{list_any}
use Rattle.query_model.specs.declared.query.Query.{Query}
use Rattle.sql_grammar.specs.Names.{tokens_of, Spells}
use Rattle.sql_grammar.specs.declared.Token.{Token}
use Rattle.sql_grammar.specs.declared.Token.TheVariants as token
use Rattle.sql_grammar.specs.declared.Keyword.TheVariants as keyword
use Rattle.sql_grammar.specs.declared.Sign.TheVariants as sign
use Rattle.sql_text.specs.declared.limits.ParseRefusal.{ParseRefusal}
use Rattle.sql_text.specs.declared.limits.ParseRefusal.TheVariants as refusal
use Rattle.sql_text.specs.declared.parse_error.ParseError.{ParseError}
use Rattle.sql_text.specs.declared.parse_error.ParseError.TheVariants as error

abbrev pub is_large : Token → Bool
is_large (token.Name w) = false
is_large (token.Keyword k) = false
is_large (token.Number n) = false
is_large token.LargeNumber = true
is_large (token.Text t) = false
is_large (token.Sign s) = false

-- ---- operators and parentheses

abbrev pub is_operator : Token → Bool
is_operator (token.Sign sign.Open) = true
is_operator (token.Sign sign.Plus) = true
is_operator (token.Sign sign.Minus) = true
is_operator (token.Sign sign.Star) = true
is_operator (token.Keyword keyword.And) = true
is_operator (token.Keyword keyword.Or) = true
is_operator (token.Keyword keyword.Not) = true
is_operator _ = false

-- ---- refusals

abbrev pub token_refusal : List Token → Option ParseRefusal
token_refusal ts =
    if list_any is_large ts then Some refusal.NumberTooLarge
    else if nat_lt 1000 (count_by is_operator ts) then Some refusal.TooComplex else None

abbrev pub refusal_of_tokens : Option (List Token) → Option ParseRefusal
refusal_of_tokens None = Some refusal.Syntax
refusal_of_tokens (Some ts) = token_refusal ts

-- the refusal that comes before a query is read, where one does
abbrev pub early_refusal : List ℕ → Option ParseRefusal
early_refusal text =
    if nat_lt 65536 (length text) then Some refusal.TooLong else refusal_of_tokens (tokens_of text)

-- when each refusal comes
abbrev pub IsRefused : ParseRefusal → List ℕ → Type 0
IsRefused refusal.TooLong text = early_refusal text ≡ Some refusal.TooLong
IsRefused refusal.Syntax text = (early_refusal text ≡ Some refusal.Syntax)
    ⊎ ((early_refusal text ≡ None) × ((q : Query) → Spells q text → ⊥))
IsRefused refusal.NumberTooLarge text = early_refusal text ≡ Some refusal.NumberTooLarge
IsRefused refusal.TooComplex text = early_refusal text ≡ Some refusal.TooComplex
IsRefused refusal.Memory text = Unit {0}

abbrev pub parse_refusal_of : ParseError → ParseRefusal
parse_refusal_of error.Syntax = refusal.Syntax
parse_refusal_of error.Memory = refusal.Memory

-- a query that is read from a text
pub record IsReadFrom (q : Query) (text : List ℕ) : Type 0 where
  pub early : early_refusal text ≡ None
  pub spells : Spells q text
