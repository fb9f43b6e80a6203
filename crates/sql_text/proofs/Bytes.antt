-- One turn of the scanner.
use Rattle.std.proofs.lemmas.Grind.{common_steps}
use Rattle.sql_text.proofs.Imports.{◌≡◌, ℕ, suc, ◌+◌, ◌-◌, ◌<◌, ◌≤◌, true, false, List, [], ◌∷◌, ◌++◌, length, drop, get_or, Option, Some, option_map, refl, append_assoc, add-one, arith, drop-cons, append-nil, is_blank, text_byte, text_on, text_end, text_at, token_front, behind_token, tokens_behind, Token, TextPlace, TextByte, drop_all, fitting, is_ascii_digit, list_all, numeral_value, take_while, with_digits, with_digits-is, ◌∙◌, take, take_while-longest, take-take_while}

-- ---- strings

-- the string with the content before it, and the bytes that were taken
abbrev pub text_behind : List ℕ → ℕ → Option (List ℕ × ℕ) → Option (List ℕ × ℕ)
text_behind front n read = option_map (λ r. (front ++ r.0, n + r.1)) read

more : (n m : ℕ) → n + suc m ≡ n + 1 + m
more n m = omega arith

pub content_step : (front : List ℕ) (n b : ℕ) (read : Option (List ℕ × ℕ))
    → text_behind front n (option_map (λ r. (b ∷ r.0, suc r.1)) read)
    ≡ text_behind (front ++ b ∷ []) (n + 1) read
content_step front n b read = grind (arith, append_assoc)

pub pass_step : (front : List ℕ) (n : ℕ) (read : Option (List ℕ × ℕ))
    → text_behind front n (option_map (λ r. (r.0, suc r.1)) read) ≡ text_behind front (n + 1) read
pass_step front n read = grind arith

pub whole_text : (front : List ℕ) (n : ℕ) → text_behind front n (Some ([], 0)) ≡ Some (front, n)
whole_text front n = let e : n + 0 ≡ n = omega arith in rw (append-nil, e) refl

-- a byte of the string at the place i
pub turn : (whole : Option (List ℕ × ℕ)) (bytes front : List ℕ) (i : ℕ) (p : TextPlace)
    (what : TextByte) → whole ≡ text_behind front i (text_at p (drop i bytes)) → i < length bytes
    → text_byte p (get_or bytes i 0) ≡ what
    → whole ≡ text_behind front i
    (text_on what (get_or bytes i 0) (λ next. text_at next (drop (i + 1) bytes)))
unfolding text_at
turn whole bytes front i p what at h is = grind (arith, common_steps, add-one, drop-cons)

pub text_ends : (whole : Option (List ℕ × ℕ)) (bytes front : List ℕ) (i : ℕ) (p q : TextPlace)
    → whole ≡ text_behind front i (text_at p (drop i bytes)) → i ≡ length bytes → p ≡ q
    → whole ≡ text_behind front (length bytes) (text_end q)
unfolding text_at
text_ends whole bytes front i p q at last is = grind (arith, drop_all)

-- ---- numbers

pub number_is : (bytes : List ℕ) (n : ℕ) → n ≡ length (take_while is_ascii_digit bytes)
    → with_digits 0 (take n bytes) ≡ fitting (numeral_value (take_while is_ascii_digit bytes))
number_is bytes n e =
    let front = take_while is_ascii_digit bytes in
    let all : list_all is_ascii_digit front ≡ true =
    rw (take-take_while is_ascii_digit bytes) at (take_while-longest is_ascii_digit bytes).is_one in
    rw (e, take-take_while is_ascii_digit bytes)
    (with_digits-is front 0 (omega arith) ∙ rw all refl)

-- ---- one token after another

-- the tokens with those before them
abbrev pub tokens_with : List Token → Option (List Token) → Option (List Token)
tokens_with front read = option_map (λ ts. front ++ ts) read

-- a byte of the last token
pub tokens_passed : (n b : ℕ) (bs rest : List ℕ) → rest ≡ b ∷ bs → 0 < n
    → tokens_behind n rest ≡ tokens_behind (n - 1) bs
unfolding tokens_behind
tokens_passed n b bs rest is h = grind arith

pub tokens_blank : (n b : ℕ) (bs rest : List ℕ) → rest ≡ b ∷ bs → n ≤ 0 → is_blank b ≡ true
    → tokens_behind n rest ≡ tokens_behind n bs
unfolding tokens_behind
tokens_blank n b bs rest is h blank = grind arith

pub tokens_front : (n b : ℕ) (bs rest : List ℕ) → rest ≡ b ∷ bs → n ≤ 0 → is_blank b ≡ false
    → tokens_behind n rest ≡ behind_token (token_front rest) (λ n. tokens_behind n bs)
unfolding tokens_behind
tokens_front n b bs rest is h blank = grind arith

pub token_step : (front : List Token) (t : Token) (read : Option (List Token))
    → tokens_with front (option_map (λ ts. t ∷ ts) read) ≡ tokens_with (front ++ t ∷ []) read
token_step front t read = grind (arith, append_assoc)

pub tokens_end : (n : ℕ) (front : List Token) (rest : List ℕ) → rest ≡ []
    → tokens_with front (tokens_behind n rest) ≡ Some front
unfolding tokens_behind
tokens_end n front rest is = grind (arith, append-nil)
