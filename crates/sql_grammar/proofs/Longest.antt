-- What is read at the front is the longest of its kind.
use Rattle.sql_grammar.specs.Longest.{IsLongest, IsTokenAt, TokensAreLongest, is_number_text, is_sign_text, is_word_text}
use Rattle.sql_grammar.specs.Tokens.{begins_with_letter, double_sign, is_letter, is_word_byte, keyword_of, longest_sign, number_front, sign_front, sign_or, single_sign, text_front, word_front, word_token}
use Rattle.sql_grammar.specs.declared.Keyword.{Keyword}
use Rattle.sql_grammar.specs.declared.Sign.{Sign}
use Rattle.sql_grammar.specs.declared.TextPlace.TheVariants as place
use Rattle.sql_grammar.specs.declared.Token.{Token}
use Rattle.sql_grammar.specs.declared.Token.TheVariants as token
use Rattle.sql_grammar.proofs.Strings.{strings_are_written}
use Rattle.std.proofs.lemmas.List.Sums.{take_while-cons}
use Rattle.std.proofs.lemmas.Option.{same_Some}
use Rattle.std.specs.Char.{is_ascii_digit}
use Rattle.std.specs.List.{list_all}
use Rattle.std.specs.Prelude.{not, take_while, zero, ◌&&◌, ◌-◌, ◌<◌, ◌==◌, ◌^◌, ◌≤◌}
use Rattle.std.proofs.Common.{Bool, List, None, Option, Some, [], ap, arith, cond, false, length, option_map, refl, subst, suc, take, true, ℕ, ◌∙◌, ◌∷◌, ◌≡◌}

-- those at the front that pass a test are the longest that do
pub take_while-longest : (test : ℕ → Bool) (bytes : List ℕ)
    → IsLongest (list_all test) bytes (length (take_while test bytes))
take_while-longest test [] =
    record { within = omega arith; is_one = refl; longest = λ m lt le. absurd (omega arith) }
take_while-longest test (b ∷ bytes) =
    rw (take_while-cons test b bytes) (go (test b) refl (take_while-longest test bytes))
  where
    front : List ℕ
    front = take_while test bytes

    more : (r : IsLongest (list_all test) bytes (length front)) (m : ℕ) → test b ≡ true
        → suc (length front) < m → m ≤ suc (length bytes)
        → list_all test (take m (b ∷ bytes)) ≡ false
    more r zero e lt le = absurd (omega arith)
    more r (suc m) e lt le = rw e (r.longest m (omega (arith, lt)) (omega (arith, le)))

    none : (m : ℕ) → test b ≡ false → 0 < m → list_all test (take m (b ∷ bytes)) ≡ false
    none zero e lt = absurd (omega arith)
    none (suc m) e lt = rw e refl

    go : (x : Bool) → test b ≡ x → IsLongest (list_all test) bytes (length front)
        → IsLongest (list_all test) (b ∷ bytes) (length (cond x (b ∷ front) []))
    go true e r = record {
      within = (let le = r.within in omega (arith, le));
      is_one = rw e r.is_one;
      longest = λ m lt le. more r m e lt le;
    }
    go false e r =
        record { within = omega arith; is_one = refl; longest = λ m lt le. none m e lt }

pub take-take_while : (test : ℕ → Bool) (bytes : List ℕ)
    → take (length (take_while test bytes)) bytes ≡ take_while test bytes
take-take_while test [] = refl
take-take_while test (b ∷ bytes) =
    rw (take_while-cons test b bytes) (go (test b) (take-take_while test bytes))
  where
    go : (x : Bool) → take (length (take_while test bytes)) bytes ≡ take_while test bytes
        → take (length (cond x (b ∷ take_while test bytes) [])) (b ∷ bytes)
        ≡ cond x (b ∷ take_while test bytes) []
    go true e = ap (λ l. b ∷ l) e
    go false e = refl

-- what the first byte says of the bytes at the front
module _ (first : List ℕ → Bool) (test : ℕ → Bool) (b : ℕ) (bs : List ℕ)
    (is : test b ≡ true) (at : (m : ℕ) → first (take (suc m) (b ∷ bs)) ≡ true) where
  at_some : (m : ℕ) → 0 < m → first (take m (b ∷ bs)) ≡ true
  at_some zero lt = absurd (omega arith)
  at_some (suc m) lt = at m

  some : 0 < length (take_while test (b ∷ bs))
  some = rw (take_while-cons test b bs) (go (test b) is)
    where
      go : (x : Bool) → x ≡ true → 0 < length (cond x (b ∷ take_while test bs) [])
      go true e = omega arith
      go false e = absurd cc

  run_from : IsLongest (λ bytes. first bytes && list_all test bytes) (b ∷ bs)
      (length (take_while test (b ∷ bs)))
  run_from =
      let r = take_while-longest test (b ∷ bs) in
      record {
        within = r.within;
        is_one = rw (at_some _ some) r.is_one;
        longest = λ m lt le. rw (at_some m (omega (arith, lt))) (r.longest m lt le);
      }

-- ---- signs

longer : (b : ℕ) (bs : List ℕ) (m : ℕ) → 2 < m → m ≤ length (b ∷ bs)
    → is_sign_text (take m (b ∷ bs)) ≡ false
longer b (c ∷ d ∷ bs) (suc (suc (suc m))) lt le = refl
longer b bs m lt le = absurd (omega arith)

double : (b c : ℕ) (bs : List ℕ) (s : Sign) → double_sign b c ≡ Some s
    → IsTokenAt (token.Sign s) (b ∷ c ∷ bs) 2
double b c bs s e =
    (record { within = omega arith; is_one = rw e refl; longest = longer b (c ∷ bs) }, e)

single : (b : ℕ) (bs : List ℕ) (s : Sign) → single_sign b ≡ Some s
    → ((c : ℕ) (cs : List ℕ) → bs ≡ c ∷ cs → double_sign b c ≡ None)
    → IsTokenAt (token.Sign s) (b ∷ bs) 1
single b bs s e none =
    (record { within = omega arith; is_one = rw e refl; longest = more bs none }, e)
  where
    more : (bs : List ℕ) → ((c : ℕ) (cs : List ℕ) → bs ≡ c ∷ cs → double_sign b c ≡ None)
        → (m : ℕ) → 1 < m → m ≤ length (b ∷ bs) → is_sign_text (take m (b ∷ bs)) ≡ false
    more (c ∷ bs) none (suc (suc zero)) lt le = rw (none c bs refl) refl
    more bs none (suc (suc (suc m))) lt le = longer b bs (suc (suc (suc m))) (omega arith) le
    more bs none m lt le = absurd (omega arith)

sign_longest : (b : ℕ) (bs : List ℕ) (s : Sign) (n : ℕ) → longest_sign b bs ≡ Some (s, n)
    → IsTokenAt (token.Sign s) (b ∷ bs) n
sign_longest b [] s n h = one (single_sign b) refl h
  where
    one : (o : Option Sign) → single_sign b ≡ o → sign_or None o ≡ Some (s, n)
        → IsTokenAt (token.Sign s) (b ∷ []) n
    one None e h = absurd cc
    one (Some t) e h = subst (λ (r : Sign × ℕ). IsTokenAt (token.Sign r.0) (b ∷ []) r.1)
        (same_Some _ _ h) (single b [] t e (λ c cs e. absurd cc))
sign_longest b (c ∷ bs) s n h = go (double_sign b c) (single_sign b) refl refl h
  where
    go : (two one : Option Sign) → double_sign b c ≡ two → single_sign b ≡ one
        → sign_or two one ≡ Some (s, n) → IsTokenAt (token.Sign s) (b ∷ c ∷ bs) n
    go (Some t) one e f h = subst (λ (r : Sign × ℕ). IsTokenAt (token.Sign r.0) (b ∷ c ∷ bs) r.1)
        (same_Some _ _ h) (double b c bs t e)
    go None (Some t) e f h = subst (λ (r : Sign × ℕ). IsTokenAt (token.Sign r.0) (b ∷ c ∷ bs) r.1)
        (same_Some _ _ h) (single b (c ∷ bs) t f (λ d ds same. (let k : c ≡ d = cc in rw (← k) e)))
    go None None e f h = absurd cc

-- ---- tokens

word_run : (b : ℕ) (bs : List ℕ) → is_letter b ≡ true
    → IsLongest is_word_text (b ∷ bs) (length (take_while is_word_byte (b ∷ bs)))
word_run b bs is = run_from begins_with_letter is_word_byte b bs (rw is refl) (λ m. is)

numeral_run : (b : ℕ) (bs : List ℕ) → is_ascii_digit b ≡ true
    → IsLongest is_number_text (b ∷ bs) (length (take_while is_ascii_digit (b ∷ bs)))
numeral_run b bs is =
    run_from (λ bytes. not (length bytes == 0)) is_ascii_digit b bs is (λ m. grind arith)

word : (b : ℕ) (bs : List ℕ) (t : Token) (n : ℕ) → is_letter b ≡ true
    → word_front (b ∷ bs) ≡ (t, n) → IsTokenAt t (b ∷ bs) n
word b bs t n is h =
    subst (λ (r : Token × ℕ). IsTokenAt r.0 (b ∷ bs) r.1) h (go (keyword_of front) refl)
  where
    front : List ℕ
    front = take_while is_word_byte (b ∷ bs)

    go : (k : Option Keyword) → keyword_of front ≡ k
        → IsTokenAt (word_token front k) (b ∷ bs) (length front)
    go (Some k) e = (word_run b bs is, ap keyword_of (take-take_while is_word_byte (b ∷ bs)) ∙ e)
    go None e = (word_run b bs is, take-take_while is_word_byte (b ∷ bs))

numeral : (b : ℕ) (bs : List ℕ) (t : Token) (n : ℕ) → is_ascii_digit b ≡ true
    → number_front (b ∷ bs) ≡ Some (t, n) → IsTokenAt t (b ∷ bs) n
numeral b bs t n is h = grind (arith, numeral_run, take-take_while is_ascii_digit (b ∷ bs))

quoted : (b : ℕ) (bs : List ℕ) (t : Token) (n : ℕ) → text_front bs ≡ Some (t, n)
    → IsTokenAt t (b ∷ bs) n
quoted b bs t n h = grind (arith, strings_are_written bs)

signed : (b : ℕ) (bs : List ℕ) (t : Token) (n : ℕ) → sign_front b bs ≡ Some (t, n)
    → IsTokenAt t (b ∷ bs) n
signed b bs t n h = go (longest_sign b bs) refl h
  where
    go : (r : Option (Sign × ℕ)) → longest_sign b bs ≡ r
        → option_map {U = Token × ℕ} (λ r. (token.Sign r.0, r.1)) r ≡ Some (t, n)
        → IsTokenAt t (b ∷ bs) n
    go None e h = absurd cc
    go (Some r) e h = subst (λ (r : Token × ℕ). IsTokenAt r.0 (b ∷ bs) r.1) (same_Some _ _ h)
        (sign_longest b bs r.0 r.1 e)

pub tokens_are_longest : TokensAreLongest
tokens_are_longest [] t n h = absurd cc
tokens_are_longest (b ∷ bs) t n h = go (is_letter b) (is_ascii_digit b) (b == 39) refl refl h
  where
    go : (x y z : Bool) → is_letter b ≡ x → is_ascii_digit b ≡ y
        → cond x (Some (word_front (b ∷ bs)))
        (cond y (number_front (b ∷ bs)) (cond z (text_front bs) (sign_front b bs))) ≡ Some (t, n)
        → IsTokenAt t (b ∷ bs) n
    go true y z e f h = word b bs t n e (same_Some _ _ h)
    go false true z e f h = numeral b bs t n f h
    go false false true e f h = quoted b bs t n h
    go false false false e f h = signed b bs t n h
