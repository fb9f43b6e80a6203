-- Digits read in turn spell the number of the whole numeral.
use Rattle.query_model.proofs.Imports.{List, None, Some, [], ap, arith, cond, drop, drop_all, drop_more, false, fold, get_or, is_ascii_digit, length, list_all, nat_lt, numeral_below, option_and_then, refl, true, with_digit, with_digits, ℕ, ◌&&◌, ◌*◌, ◌+◌, ◌-◌, ◌<◌, ◌^◌, ◌∷◌, ◌≡◌, ◌≤◌}

abbrev pub next : ℕ → ℕ → ℕ
next n b = n * 10 + (b - 48)

fold-le : (bytes : List ℕ) (n : ℕ) → n ≤ fold next n bytes
fold-le [] n = omega arith
fold-le (b ∷ bytes) n = let more = fold-le bytes (next n b) in omega (arith, more)

not_below : (n m : ℕ) → nat_lt n (2 ^ 64) ≡ false → n ≤ m → nat_lt m (2 ^ 64) ≡ false
not_below n m h k = grind arith

-- the digits in turn give the whole number, where it is in range
pub with_digits-is : (bytes : List ℕ) (n : ℕ) → n < 2 ^ 64
    → with_digits n bytes ≡ cond (list_all is_ascii_digit bytes
    && nat_lt (fold next n bytes) (2 ^ 64)) (Some (fold next n bytes)) None
unfolding with_digits
with_digits-is [] n h = let e : nat_lt n (2 ^ 64) ≡ true = grind arith in rw e refl
with_digits-is (b ∷ bytes) n h =
    grind (arith, fold-le bytes (next n b), not_below, with_digits-is bytes (next n b))

pub with_digits-numeral : (bytes : List ℕ) → 0 < length bytes
    → with_digits 0 bytes ≡ numeral_below (2 ^ 64) bytes
with_digits-numeral [] h = absurd (omega arith)
with_digits-numeral (b ∷ bytes) h = with_digits-is (b ∷ bytes) 0 (omega arith)

-- where one digit more is read
pub with_digits-step : (bytes : List ℕ) (i n : ℕ) → i < length bytes → with_digits n (drop i bytes)
    ≡ option_and_then (λ m. with_digits m (drop (i + 1) bytes)) (with_digit n (get_or bytes i 0))
unfolding with_digits
with_digits-step bytes i n h = ap (with_digits n) (drop_more bytes i 0 h)

-- where no digit is left
pub with_digits-end : (bytes : List ℕ) (i n : ℕ) → length bytes ≤ i
    → with_digits n (drop i bytes) ≡ Some n
unfolding with_digits
with_digits-end bytes i n h = ap (with_digits n) (drop_all i bytes h)
