-- The tokens of a text, each as long as it can be.
use Rattle.std.specs.Prelude.{ℕ, zero, suc, ◌+◌, ◌-◌, ◌*◌, ◌^◌, Bool, true, false, not, nat_lt, ◌==◌, ◌&&◌, ◌||◌, if◌then◌else◌, List, [], ◌∷◌, length, drop, map, find, take_while, codes, Option, Some, None, option_map, is_some}
use Rattle.std.specs.List.{list_all}
use Rattle.std.specs.Char.{is_ascii_digit, is_ascii_alphabetic, to_ascii_lowercase}
use Rattle.std.specs.Str.{bytes_eq}
use Rattle.query_model.specs.Fields.{numeral_value}
use Rattle.query_model.specs.declared.query.AggOp.{AggOp}
use Rattle.query_model.specs.declared.query.AggOp.TheVariants as agg
use Rattle.sql_grammar.specs.declared.Token.{Token}
use Rattle.sql_grammar.specs.declared.Token.TheVariants as token
use Rattle.sql_grammar.specs.declared.Keyword.{Keyword}
use Rattle.sql_grammar.specs.declared.Keyword.TheVariants as keyword
use Rattle.sql_grammar.specs.declared.Sign.{Sign}
use Rattle.sql_grammar.specs.declared.Sign.TheVariants as sign
use Rattle.sql_grammar.specs.declared.TextPlace.{TextPlace}
use Rattle.sql_grammar.specs.declared.TextPlace.TheVariants as place
use Rattle.sql_grammar.specs.declared.TextByte.{TextByte}
use Rattle.sql_grammar.specs.declared.TextByte.TheVariants as byte
use Rattle.sql_grammar.specs.declared.TheConstants.{KEYWORDS}

-- space, tab, CR and LF
abbrev pub is_blank : ℕ → Bool
is_blank b = ((b == 32) || (b == 9)) || ((b == 13) || (b == 10))

-- an ASCII letter or an underscore
abbrev pub is_letter : ℕ → Bool
is_letter b = is_ascii_alphabetic b || (b == 95)

abbrev pub is_word_byte : ℕ → Bool
is_word_byte b = is_letter b || is_ascii_digit b

-- ---- words

abbrev pub keyword_text : Keyword → List ℕ
keyword_text keyword.Select = codes "SELECT"
keyword_text keyword.From = codes "FROM"
keyword_text keyword.Where = codes "WHERE"
keyword_text keyword.Group = codes "GROUP"
keyword_text keyword.By = codes "BY"
keyword_text keyword.Having = codes "HAVING"
keyword_text keyword.Order = codes "ORDER"
keyword_text keyword.Limit = codes "LIMIT"
keyword_text keyword.Offset = codes "OFFSET"
keyword_text keyword.As = codes "AS"
keyword_text keyword.And = codes "AND"
keyword_text keyword.Or = codes "OR"
keyword_text keyword.Not = codes "NOT"
keyword_text keyword.Inner = codes "INNER"
keyword_text keyword.Join = codes "JOIN"
keyword_text keyword.On = codes "ON"
keyword_text keyword.Asc = codes "ASC"
keyword_text keyword.Desc = codes "DESC"
keyword_text keyword.Union = codes "UNION"
keyword_text keyword.All = codes "ALL"
keyword_text keyword.Distinct = codes "DISTINCT"
keyword_text keyword.Left = codes "LEFT"
keyword_text keyword.Is = codes "IS"
keyword_text keyword.Null = codes "NULL"

-- whether a word is this one, in any ASCII case
abbrev pub is_word : List ℕ → List ℕ → Bool
is_word word text = bytes_eq (map to_ascii_lowercase word) (map to_ascii_lowercase text)

-- the keyword that a word is
abbrev pub keyword_of : List ℕ → Option Keyword
keyword_of word = find (λ k. is_word word (keyword_text k)) KEYWORDS

abbrev pub word_token : List ℕ → Option Keyword → Token
word_token word (Some k) = token.Keyword k
word_token word None = token.Name word

-- the word at the front and how many bytes it takes
abbrev pub word_front : List ℕ → Token × ℕ
word_front bs = let word = take_while is_word_byte bs in
    (word_token word (keyword_of word), length word)

abbrev pub begins_with_letter : List ℕ → Bool
begins_with_letter [] = false
begins_with_letter (b ∷ bs) = is_letter b

-- a letter or an underscore, then letters, digits and underscores, and no keyword
unfoldable pub is_name : List ℕ → Bool
is_name word =
    begins_with_letter word && list_all is_word_byte word && not (is_some (keyword_of word))

-- the aggregate that a word means before "(", in any ASCII case
abbrev pub aggregate_of : List ℕ → Option AggOp
aggregate_of word =
    if is_word word (codes "count") then Some agg.Count else if is_word word (codes "sum")
    then Some agg.Sum
    else if is_word word (codes "min") then Some agg.Min else if is_word word (codes "max")
    then Some agg.Max else None

-- `count` has no argument, each other call has one
abbrev pub has_argument : AggOp → Bool
has_argument agg.Count = false
has_argument agg.Sum = true
has_argument agg.Min = true
has_argument agg.Max = true

-- ---- numbers

-- a number that is one of 64 bits
abbrev pub fitting : ℕ → Option ℕ
fitting n = if nat_lt n (2 ^ 64) then Some n else None

abbrev pub number_token : Option ℕ → Token
number_token (Some n) = token.Number n
number_token None = token.LargeNumber

-- the number at the front and how many bytes it takes; no letter follows it
abbrev pub number_front : List ℕ → Option (Token × ℕ)
number_front bs =
    let digits = take_while is_ascii_digit bs in
    if begins_with_letter (drop (length digits) bs) then None
    else Some (number_token (fitting (numeral_value digits)), length digits)

-- ---- strings

-- what a byte is to a string: a quote may be written as two quotes or behind a backslash, and a
-- backslash behind a backslash
abbrev pub text_byte : TextPlace → ℕ → TextByte
text_byte place.Middle b =
    if b == 39 then byte.Passed place.BehindQuote else if b == 92
    then byte.Passed place.BehindBackslash else byte.Content
text_byte place.BehindQuote b = if b == 39 then byte.Content else byte.Behind
text_byte place.BehindBackslash b = if (b == 39) || (b == 92) then byte.Content else byte.Bad

abbrev pub text_on : TextByte → ℕ → (TextPlace → Option (List ℕ × ℕ)) → Option (List ℕ × ℕ)
text_on byte.Content b more = option_map (λ r. (b ∷ r.0, suc r.1)) (more place.Middle)
text_on (byte.Passed next) b more = option_map (λ r. (r.0, suc r.1)) (more next)
text_on byte.Behind b more = Some ([], 0)
text_on byte.Bad b more = None

abbrev pub text_end : TextPlace → Option (List ℕ × ℕ)
text_end place.Middle = None
text_end place.BehindQuote = Some ([], 0)
text_end place.BehindBackslash = None

-- the content of the string that goes on here, and how many bytes are left of it with its last
-- quote
unfoldable pub text_at : TextPlace → List ℕ → Option (List ℕ × ℕ)
text_at p [] = text_end p
text_at p (b ∷ bs) = text_on (text_byte p b) b (λ next. text_at next bs)

-- ---- signs

-- the sign of one byte
abbrev pub single_sign : ℕ → Option Sign
single_sign b =
    if b == 40 then Some sign.Open else if b == 41 then Some sign.Close
    else if b == 44 then Some sign.Comma else if b == 46 then Some sign.Dot
    else if b == 59 then Some sign.Semicolon else if b == 42 then Some sign.Star
    else if b == 43 then Some sign.Plus else if b == 45 then Some sign.Minus
    else if b == 61 then Some sign.Equal else if b == 60 then Some sign.Less
    else if b == 62 then Some sign.Greater else None

-- the sign of two bytes
abbrev pub double_sign : ℕ → ℕ → Option Sign
double_sign b c =
    if (b == 60) && (c == 62) then Some sign.NotEqual else if not (c == 61) then None
    else if b == 61 then Some sign.Equal else if b == 33 then Some sign.NotEqual
    else if b == 60 then Some sign.LessEqual else if b == 62 then Some sign.GreaterEqual else None

-- the longer sign, and how many bytes it takes
abbrev pub sign_or : Option Sign → Option Sign → Option (Sign × ℕ)
sign_or (Some s) shorter = Some (s, 2)
sign_or None shorter = option_map (λ s. (s, 1)) shorter

abbrev pub longest_sign : ℕ → List ℕ → Option (Sign × ℕ)
longest_sign b [] = sign_or None (single_sign b)
longest_sign b (c ∷ bs) = sign_or (double_sign b c) (single_sign b)

abbrev pub sign_front : ℕ → List ℕ → Option (Token × ℕ)
sign_front b bs = option_map (λ r. (token.Sign r.0, r.1)) (longest_sign b bs)

-- ---- texts

-- the string behind a quote, and how many bytes it takes with that
abbrev pub text_front : List ℕ → Option (Token × ℕ)
text_front bs = option_map (λ r. (token.Text r.0, suc r.1)) (text_at place.Middle bs)

-- the token at the front and how many bytes it takes
abbrev pub token_front : List ℕ → Option (Token × ℕ)
token_front [] = None
token_front (b ∷ bs) =
    if is_letter b then Some (word_front (b ∷ bs))
    else if is_ascii_digit b then number_front (b ∷ bs) else if b == 39 then text_front bs
    else sign_front b bs

-- the tokens behind a token, which are those behind its bytes
abbrev pub behind_token : Option (Token × ℕ) → (ℕ → Option (List Token)) → Option (List Token)
behind_token None rest = None
behind_token (Some t) rest = option_map (λ ts. t.0 ∷ ts) (rest (t.1 - 1))

-- the tokens behind as many bytes
unfoldable pub tokens_behind : ℕ → List ℕ → Option (List Token)
tokens_behind n [] = Some []
tokens_behind zero (b ∷ bs) =
    if is_blank b then tokens_behind 0 bs
    else behind_token (token_front (b ∷ bs)) (λ n. tokens_behind n bs)
tokens_behind (suc n) (b ∷ bs) = tokens_behind n bs

-- the tokens of a text, where it is a list of tokens
abbrev pub tokens_of : List ℕ → Option (List Token)
tokens_of text = tokens_behind 0 text
