-- The machine of strings reads what is written, as long as it goes on.
use Rattle.sql_grammar.specs.Names.{IsQuoted, IsStringAt, StringsAreRead, StringsAreWritten, another_byte, begins_with, closed, quote_behind_backslash, text_at, text_on, two_backslashes, two_quotes}
use Rattle.std.proofs.Common.{Bool, List, None, Option, Some, [], ap, arith, cond, drop, false, length, length-take-le, option_map, refl, subst, suc, take, take-append-drop, true, ℕ, ◌++◌, ◌∙◌, ◌∷◌, ◌≡◌, ◌≢◌}
use Rattle.std.proofs.lemmas.Bool.{eqb-false as unequal, eqb-true as equal, ne_eqb as differ}
use Rattle.std.specs.Prelude.{⊤, ◌==◌, ◌||◌}
use Rattle.sql_grammar.specs.declared.TextPlace.TheVariants as place
use Rattle.sql_grammar.specs.declared.TextByte.TheVariants as byte

-- behind the last quote
behind_quote : (rest : List ℕ) → begins_with 39 rest ≡ false
    → text_at place.BehindQuote rest ≡ Some ([], 0)
unfolding text_at
behind_quote [] h = refl
behind_quote (b ∷ bs) h = rw h refl

abbrev Read : Type 0
Read = Option (List ℕ × ℕ)

abbrev with_byte : ℕ → Read → Read
with_byte b r = option_map (λ r. (b ∷ r.0, suc r.1)) r

abbrev one_more : Read → Read
one_more r = option_map (λ r. (r.0, suc r.1)) r

plain_byte : (b : ℕ) (bs : List ℕ) → (b == 39) ≡ false → (b == 92) ≡ false
    → text_at place.Middle (b ∷ bs) ≡ with_byte b (text_at place.Middle bs)
unfolding text_at
plain_byte b bs h k = rw (h, k) refl

read_front : (content front rest : List ℕ) → IsQuoted content front → begins_with 39 rest ≡ false
    → text_at place.Middle (front ++ rest) ≡ Some (content, length front)
unfolding text_at
read_front content front rest closed h = ap one_more (behind_quote rest h)
read_front content front rest (another_byte {b = b} {content = more} {bytes = bytes} n m q) h =
    plain_byte b (bytes ++ rest) (differ b 39 n) (differ b 92 m)
    ∙ ap (with_byte b) (read_front more bytes rest q h)
read_front content front rest (two_quotes {content = more} {bytes = bytes} q) h =
    ap (λ r. one_more (with_byte 39 r)) (read_front more bytes rest q h)
read_front content front rest (quote_behind_backslash {content = more} {bytes = bytes} q) h =
    ap (λ r. one_more (with_byte 39 r)) (read_front more bytes rest q h)
read_front content front rest (two_backslashes {content = more} {bytes = bytes} q) h =
    ap (λ r. one_more (with_byte 92 r)) (read_front more bytes rest q h)

pub strings_are_read : StringsAreRead
strings_are_read bytes content n s =
    subst (λ l. text_at place.Middle l ≡ Some (content, n)) (take-append-drop n bytes)
    (read_front content (take n bytes) (drop n bytes) s.written s.longest
    ∙ ap (λ k. Some (content, k)) (length-take-le n bytes s.within))

-- what is read at the front of the bytes
abbrev IsReadAt : List ℕ → Read → Type 0
IsReadAt bytes None = ⊤
IsReadAt bytes (Some r) = IsStringAt bytes r.0 r.1

byte_read : (b : ℕ) (bs : List ℕ) (r : Read) → b ≢ 39 → b ≢ 92 → IsReadAt bs r
    → IsReadAt (b ∷ bs) (with_byte b r)
byte_read b bs None n m h = tt
byte_read b bs (Some r) n m h = record {
  within = (let le = h.within in omega (arith, le));
  written = another_byte n m h.written;
  longest = h.longest;
}

two_read : (b c : ℕ) (cs : List ℕ) (r : Read)
    → ((content bytes : List ℕ) → IsQuoted content bytes → IsQuoted (c ∷ content) (b ∷ c ∷ bytes))
    → IsReadAt cs r → IsReadAt (b ∷ c ∷ cs) (one_more (with_byte c r))
two_read b c cs None q h = tt
two_read b c cs (Some r) q h = record {
  within = (let le = h.within in omega (arith, le));
  written =
      q _ _ h.written;
  longest = h.longest;
}

-- behind a first quote
quote_read : (b c : ℕ) (cs : List ℕ) (z : Bool) → b ≡ 39 → (c == 39) ≡ z
    → IsReadAt cs (text_at place.Middle cs) → IsReadAt (b ∷ c ∷ cs)
    (one_more (text_on (cond z byte.Content byte.Behind) c (λ next. text_at next cs)))
quote_read b c cs true e f h =
    two_read b c cs (text_at place.Middle cs)
    (λ content bytes q. rw (e, equal c 39 f) (two_quotes q)) h
quote_read b c cs false e f h = record { within = omega arith; written = rw e closed; longest = f }

-- behind a backslash
backslash_read : (b c : ℕ) (cs : List ℕ) (y z : Bool) → b ≡ 92 → (c == 39) ≡ y → (c == 92) ≡ z
    → IsReadAt cs (text_at place.Middle cs) → IsReadAt (b ∷ c ∷ cs)
    (one_more (text_on (cond (y || z) byte.Content byte.Bad) c (λ next. text_at next cs)))
backslash_read b c cs true z e f g h =
    two_read b c cs (text_at place.Middle cs)
    (λ content bytes q. rw (e, equal c 39 f) (quote_behind_backslash q)) h
backslash_read b c cs false true e f g h =
    two_read b c cs (text_at place.Middle cs)
    (λ content bytes q. rw (e, equal c 92 g) (two_backslashes q)) h
backslash_read b c cs false false e f g h = tt

read_at : (bytes : List ℕ) → IsReadAt bytes (text_at place.Middle bytes)
unfolding text_at
read_at [] = tt
read_at (b ∷ []) = go (b == 39) (b == 92) refl refl
  where
    go : (x y : Bool) → (b == 39) ≡ x → (b == 92) ≡ y
        → IsReadAt (b ∷ []) (text_on (cond x (byte.Passed place.BehindQuote)
        (cond y (byte.Passed place.BehindBackslash) byte.Content)) b (λ next. text_at next []))
    go true y e f =
        record { within = omega arith; written = rw (equal b 39 e) closed; longest = refl }
    go false true e f = tt
    go false false e f = tt
read_at (b ∷ c ∷ cs) = go (b == 39) (b == 92) refl refl (read_at (c ∷ cs)) (read_at cs)
  where
    go : (x y : Bool) → (b == 39) ≡ x → (b == 92) ≡ y
        → IsReadAt (c ∷ cs) (text_at place.Middle (c ∷ cs)) → IsReadAt cs (text_at place.Middle cs)
        → IsReadAt (b ∷ c ∷ cs) (text_on (cond x (byte.Passed place.BehindQuote) (cond y
        (byte.Passed place.BehindBackslash) byte.Content)) b (λ next. text_at next (c ∷ cs)))
    go true y e f one two = quote_read b c cs (c == 39) (equal b 39 e) refl two
    go false true e f one two =
        backslash_read b c cs (c == 39) (c == 92) (equal b 92 f) refl refl two
    go false false e f one two =
        byte_read b (c ∷ cs) (text_at place.Middle (c ∷ cs)) (unequal b 39 e) (unequal b 92 f) one

pub strings_are_written : StringsAreWritten
strings_are_written bytes content n h = subst (IsReadAt bytes) h (read_at bytes)
